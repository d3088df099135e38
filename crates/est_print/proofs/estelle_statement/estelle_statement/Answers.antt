use Rattle.std.proofs.Common.{sym}
use Rattle.text_printer.proofs.Printing.{here_prints, in_first, in_second, opt_in, rule_prints}
use Rattle.text_printer.proofs.Printing.{part}
use Rattle.est_print.proofs.Others.{no_estelle}
use Rattle.est_grammar.proofs.Made as made
use Rattle.est_print.proofs.estelle_statement.estelle_statement.Goals as goal

pub returns-in-Output : goal.returns-in-Output
returns-in-Output c = part (rw c.in-Output.is (sym (made.output_made _ _))) (rw c.in-Output.is
    (sym (made.output_made _ _))) (rule_prints (here_prints (opt_in (in_second (in_second
    (in_second (in_second (in_second (in_second (in_second (in_second (in_first
    c.output_statement.ensures)))))))))) c.in-Output.place))

pub returns-in-Init : goal.returns-in-Init
returns-in-Init c = part (rw c.in-Init.is (sym (made.init_made _ _ _ _))) (rw c.in-Init.is (sym
    (made.init_made _ _ _ _))) (rule_prints (here_prints (opt_in (in_second (in_second (in_second
    (in_second (in_second (in_second (in_second (in_second (in_second (in_first
    c.init.ensures))))))))))) c.in-Init.place))

pub returns-in-Release : goal.returns-in-Release
returns-in-Release c = part (rw c.in-Release.is (sym (made.release_made _ _))) (rw c.in-Release.is
    (sym (made.release_made _ _))) (rule_prints (here_prints (opt_in (in_second (in_second
    (in_second (in_second (in_second (in_second (in_second (in_second (in_second (in_second
    (in_first c.release_statement.ensures)))))))))))) c.in-Release.place))

pub returns-in-Connect : goal.returns-in-Connect
returns-in-Connect c = part (rw c.in-Connect.is (sym (made.connect_made _ _ _))) (rw
    c.in-Connect.is (sym (made.connect_made _ _ _))) (rule_prints (here_prints (opt_in (in_second
    (in_second (in_second (in_second (in_second (in_second (in_second (in_second (in_second
    (in_second (in_second (in_first c.connect_statement.ensures))))))))))))) c.in-Connect.place))

pub returns-in-Disconnect : goal.returns-in-Disconnect
returns-in-Disconnect c = part (rw c.in-Disconnect.is (sym (made.disconnect_made _ _))) (rw
    c.in-Disconnect.is (sym (made.disconnect_made _ _))) (rule_prints (here_prints (opt_in
    (in_second (in_second (in_second (in_second (in_second (in_second (in_second (in_second
    (in_second (in_second (in_second (in_second (in_first
    c.disconnect_statement.ensures)))))))))))))) c.in-Disconnect.place))

pub returns-in-Attach : goal.returns-in-Attach
returns-in-Attach c = part (rw c.in-Attach.is (sym (made.attach_made _ _ _ _))) (rw c.in-Attach.is
    (sym (made.attach_made _ _ _ _))) (rule_prints (here_prints (opt_in (in_second (in_second
    (in_second (in_second (in_second (in_second (in_second (in_second (in_second (in_second
    (in_second (in_second (in_second (in_first c.attach_statement.ensures)))))))))))))))
    c.in-Attach.place))

pub returns-in-Detach : goal.returns-in-Detach
returns-in-Detach c = part (rw c.in-Detach.is (sym (made.detach_made _ _))) (rw c.in-Detach.is
    (sym (made.detach_made _ _))) (rule_prints (here_prints (opt_in (in_second (in_second
    (in_second (in_second (in_second (in_second (in_second (in_second (in_second (in_second
    (in_second (in_second (in_second (in_second c.detach_statement.ensures)))))))))))))))
    c.in-Detach.place))

pub returns-in_default : goal.returns-in_default
returns-in_default c = absurd (no_estelle c.args.done.now c.requires c.in_default.not-Output
    c.in_default.not-Init c.in_default.not-Release c.in_default.not-Connect
    c.in_default.not-Disconnect c.in_default.not-Attach c.in_default.not-Detach)
