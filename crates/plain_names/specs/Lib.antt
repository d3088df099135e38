pub mod HostSubjects
