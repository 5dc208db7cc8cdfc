-- What of erl_term may go to another thread.
use denote.Param.Send.{IsSend, IsSync, sendable}
use Rattle.std.proofs.Crossing.{crosses}
use Rattle.erl_term.proofs.term.Terms.TheLaws.TheKnot as terms
use Rattle.erl_term.specs.contracts.term.Term as Term
use Rattle.erl_term.specs.contracts.term.Terms as Terms

pub term_send : IsSend Term.the_row
term_send = search (crosses, terms.crosses, sendable) depth 60 fits 20000

pub term_sync : IsSync Term.the_row
term_sync = search (crosses, terms.crosses, sendable) depth 60 fits 20000

pub terms_send : IsSend Terms.the_row
terms_send = search (crosses, terms.crosses, sendable) depth 60 fits 20000

pub terms_sync : IsSync Terms.the_row
terms_sync = search (crosses, terms.crosses, sendable) depth 60 fits 20000
