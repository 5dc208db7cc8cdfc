-- What was looked at is all: the list of the client has the replies to it in all entries.
use Rattle.std.proofs.Common.{◌≡◌, drop, ap, ◌∙◌, arith, rules}
use Rattle.std.proofs.lemmas.List.{drop_min, take_rest}
use Rattle.entry_lists.specs.Entries.{EntryList, written_out}
use Rattle.entry_lists.specs.Found.{list_of}
use Rattle.entry_lists.specs.Replies.{replies_to}
use Rattle.entry_lists.proofs.Looked.{HasLooked-all}
use Rattle.entry_lists.proofs.history.History.replies.Goals as goal

pub returns-clause-found : goal.returns-clause-found
returns-clause-found g c =
    let E = g.E.Replying in
    let runs = c.runs.result.now in
    let found = c.find_all.new.found in
    let all : list_of found.lists c.args.client ≡ replies_to E.replies_of E.client_of c.args.client (written_out runs) =
    HasLooked-all E.client_of E.replies_of g.E.Repeats.IsIdle g.met.E.Replying.idle_without_replies runs found c.runs.ensures.counts (omega (arith, c.in_ok-find_all.ensures.ok)) c.in_ok-find_all.ensures.looked c.args.client in
    let items = c.runs.ensures.items ∙ ap (λ (v : EntryList g.row.E.Denot). v.items) c.self.view_is in
    let listed = c.list-replies.ensures ∙ all ∙ ap (replies_to E.replies_of E.client_of c.args.client) items in
    let copied : c.in_ok-copied_slice.field-0.items ≡ drop c.args.from c.list-replies.result.now = search (rules, take_rest, drop_min) in
    c.new.ensures ∙ copied ∙ ap (drop c.args.from) listed
