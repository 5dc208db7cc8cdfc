-- Open calls of outside clients, in order of client and number.
use Rattle.std.specs.Prelude.{Bool, false, ◌&&◌, ◌||◌, ◌==◌, nat_lt, if◌then◌else◌, IsTrue, All, List, [], ◌∷◌}
use Rattle.process_index.specs.declared.calls.Call.{Call}

-- whether two are one call: it is told by its client and its number
abbrev pub is_same : Call → Call → Bool
is_same c d = c.client == d.client && c.number == d.number

-- whether a call comes before another: by the client, and of one client by the number
abbrev pub is_before : Call → Call → Bool
is_before c d = nat_lt c.client d.client || (c.client == d.client && nat_lt c.number d.number)

-- each call comes before all that stand behind it
abbrev pub AreInOrder : List Call → Type 0
AreInOrder [] = Unit {0}
AreInOrder (c ∷ cs) = All (λ d. IsTrue (is_before c d)) cs × AreInOrder cs

-- whether a call is one of them
abbrev pub has : Call → List Call → Bool
has c [] = false
has c (d ∷ ds) = is_same c d || has c ds

-- with one more call: behind those that come before it
abbrev pub with_call : Call → List Call → List Call
with_call c [] = c ∷ []
with_call c (d ∷ ds) = if is_before d c then d ∷ with_call c ds else c ∷ d ∷ ds

-- without a call; as they are, where it is none of them
abbrev pub without : Call → List Call → List Call
without c [] = []
without c (d ∷ ds) = if is_same c d then ds else d ∷ without c ds
