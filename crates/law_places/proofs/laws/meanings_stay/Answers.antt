-- What is said in an outline is said in a later one.
use Rattle.law_places.proofs.WhatStays.{constants_stay, texts_stay, dimensions_stay}
use Rattle.law_places.proofs.Meanings as of_names
use Rattle.law_places.proofs.laws.meanings_stay.Goals as goal

pub returns-clause-names : goal.returns-clause-names
returns-clause-names c = of_names.meanings_stay

pub returns-clause-constants : goal.returns-clause-constants
returns-clause-constants c = constants_stay

pub returns-clause-texts : goal.returns-clause-texts
returns-clause-texts c = texts_stay

pub returns-clause-dimensions : goal.returns-clause-dimensions
returns-clause-dimensions c = dimensions_stay
