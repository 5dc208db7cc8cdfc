-- The release goes to the index, under its text, under which none stands.
use Rattle.std.proofs.Common.{◌≤◌, insert, is_some, length, sym, ap, subst, ◌∙◌}
use Rattle.std.specs.Map.{values_of}
use Rattle.std.proofs.lemmas.Bool.{false≢true}
use Rattle.std.proofs.lemmas.List.{length-map}
use Rattle.values.proofs.Edits.{All-insert}
use Rattle.release_statuses.specs.Spelling.{AreSpelled, IsSpelled}
use Rattle.release_statuses.specs.Statuses.{index_of, vsn_of}
use Rattle.release_statuses.proofs.Spelled.{entries-put, map-insert, unlisted}
use Rattle.release_statuses.proofs.by_version.ByVersion.put_back.Goals as goal

pub shift_insert-requires-clause-below_len : goal.shift_insert-requires-clause-below_len
shift_insert-requires-clause-below_len c =
    let taken = c.taken.inside in
    let same = ap (λ t. index_of (vsn_of t) c.args.self.now) c.taken.view_is in
    let none = ap (index_of (vsn_of taken.it)) c.self.view_is ∙ same ∙ c.requires.absent in
    let absent = unlisted c.self.inside.table.entries taken.vsn taken.it c.self.invariant c.taken.invariant none in
    λ there. absurd (false≢true (sym (ap is_some absent) ∙ there))

pub invariant_of-self : goal.invariant_of-self
invariant_of-self c =
    let taken = c.taken.inside in
    let es = c.self.inside.table.entries in
    let same = ap (λ t. index_of (vsn_of t) c.args.self.now) c.taken.view_is in
    let none = ap (index_of (vsn_of taken.it)) c.self.view_is ∙ same ∙ c.requires.absent in
    let absent = unlisted es taken.vsn taken.it c.self.invariant c.taken.invariant none in
    let long = ap length (sym c.self.view_is) ∙ length-map es (λ e. e.1) in
    let within = subst (λ n. c.args.index ≤ n) long c.requires.within in
    let put = entries-put c.self.inside.table taken.vsn taken.it c.args.index within absent in
    let entries = c.in-Ok.ensures.entries ∙ put in
    subst AreSpelled (sym entries) (All-insert IsSpelled es c.args.index (taken.vsn, taken.it) c.self.invariant c.taken.invariant)

pub returns-in-Ok-clause-put : goal.returns-in-Ok-clause-put
returns-in-Ok-clause-put c =
    let taken = c.taken.inside in
    let es = c.self.inside.table.entries in
    let same = ap (λ t. index_of (vsn_of t) c.args.self.now) c.taken.view_is in
    let none = ap (index_of (vsn_of taken.it)) c.self.view_is ∙ same ∙ c.requires.absent in
    let absent = unlisted es taken.vsn taken.it c.self.invariant c.taken.invariant none in
    let long = ap length (sym c.self.view_is) ∙ length-map es (λ e. e.1) in
    let within = subst (λ n. c.args.index ≤ n) long c.requires.within in
    let put = entries-put c.self.inside.table taken.vsn taken.it c.args.index within absent in
    ap values_of (c.in-Ok.ensures.entries ∙ put) ∙ map-insert (λ e. e.1) es c.args.index (taken.vsn, taken.it) ∙
    ap (λ its. insert its c.args.index taken.it) c.self.view_is ∙ ap (insert c.args.self.now c.args.index) c.taken.view_is
