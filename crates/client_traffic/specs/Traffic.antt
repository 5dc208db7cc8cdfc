-- What clients send by lines, as the shell reads them.
use Rattle.std.specs.Prelude.{◌≡◌, ◌⊎◌, ℕ, ◌+◌, ◌-◌, ◌==◌, if◌then◌else◌, List, [], ◌∷◌, ◌++◌, Some}
use Rattle.std.specs.Prelude.{length, slice_get, slice_index, take}
use Rattle.std.specs.List.{slice_split}
use Rattle.erl_term.specs.Term.{tree}
use Rattle.erl_term.specs.declared.term.Term.{Term}
use Rattle.shell_requests.specs.Terms.{Misreads}
use Rattle.shell_requests.specs.Terms.{IsRead, one}
use Rattle.shell_requests.specs.declared.terms.Misread.{Misread}
use Rattle.shell_requests.specs.declared.terms.Misread.TheVariants as misread
use Rattle.shell_requests.specs.Request.{Request, ask, change, load, undo, forget, commit, arrive, serve, revive, unpack, release, relup}
use Rattle.shell_requests.specs.Request.{advance, sweep, Spoken, too_long, silent, unknown, asks, spoken}
use Rattle.client_traffic.specs.declared.TrafficError.{TrafficError}
use Rattle.client_traffic.specs.declared.TrafficError.TheVariants.{NoArrival, NotOneTerm, Term as Faulty, Memory}
use Rattle.client_traffic.specs.declared.TrafficFault.{TrafficFault}
use Rattle.upgrade_rehearsal.specs.declared.arrival.Arrival.{Arrival}

-- The lines of a text: the bytes between its newlines (10).
abbrev pub lines_of : List ℕ → List (List ℕ)
lines_of text = slice_split (λ b. b == 10) text

-- A line without the carriage return (13) that it ends with, if it ends with one; and what the shell reads in it.

abbrev pub bare : List ℕ → List ℕ
bare line = if slice_index line (length line - 1) == 13 then take (length line - 1) line else line

abbrev pub said_in : List ℕ → Spoken
said_in line = spoken (Some (bare line))

-- A request sends something if it is a `call`, a `cast` or a `send`, and its text is one term; and else the reason is given why
-- not.

abbrev pub SentBy : Request → List Arrival → Type 0
SentBy (ask question) sent = ⊥
SentBy (change kind name) sent = ⊥
SentBy (load name path) sent = ⊥
SentBy (undo mark) sent = ⊥
SentBy (forget mark) sent = ⊥
SentBy (commit job) sent = ⊥
SentBy (arrive kind name text) sent =
    (term : Term) × IsRead text (one (tree term)) × (sent ≡ record { kind = kind; name = name; term = term } ∷ [])
SentBy (serve service process) sent = ⊥
SentBy (revive app id) sent = ⊥
SentBy (unpack vsn) sent = ⊥
SentBy (release kind vsn) sent = ⊥
SentBy (relup from to) sent = ⊥
SentBy (advance give_up) sent = ⊥
SentBy sweep sent = ⊥

abbrev pub error_of : Misread → TrafficError
error_of misread.NotOne = NotOneTerm
error_of (misread.Faulty error) = Faulty error
error_of misread.NoMemory = Memory

abbrev pub IsAmissBy : Request → TrafficError → Type 0
IsAmissBy (ask question) e = e ≡ NoArrival
IsAmissBy (change kind name) e = e ≡ NoArrival
IsAmissBy (load name path) e = e ≡ NoArrival
IsAmissBy (undo mark) e = e ≡ NoArrival
IsAmissBy (forget mark) e = e ≡ NoArrival
IsAmissBy (commit job) e = e ≡ NoArrival
IsAmissBy (arrive kind name text) e = (why : Misread) × Misreads text why × (e ≡ error_of why)
IsAmissBy (serve service process) e = e ≡ NoArrival
IsAmissBy (revive app id) e = e ≡ NoArrival
IsAmissBy (unpack vsn) e = e ≡ NoArrival
IsAmissBy (release kind vsn) e = e ≡ NoArrival
IsAmissBy (relup from to) e = e ≡ NoArrival
IsAmissBy (advance give_up) e = e ≡ NoArrival
IsAmissBy sweep e = e ≡ NoArrival

-- A line sends nothing if it is blank or a comment, and else what its request sends.

abbrev pub Sends : Spoken → List Arrival → Type 0
Sends too_long sent = ⊥
Sends silent sent = sent ≡ []
Sends unknown sent = ⊥
Sends (asks request) sent = SentBy request sent

abbrev pub IsAmiss : Spoken → TrafficError → Type 0
IsAmiss too_long e = e ≡ NoArrival
IsAmiss silent e = ⊥
IsAmiss unknown e = e ≡ NoArrival
IsAmiss (asks request) e = IsAmissBy request e

-- a line is read, and what it sends is appended to what others have sent
abbrev pub Adds : List ℕ → List Arrival → List Arrival → Type 0
Adds line old new = (sent : List Arrival) × Sends (said_in line) sent × (new ≡ old ++ sent)

-- A line is faulty for this reason. Nothing is claimed about it if an allocation failed.
abbrev pub IsAmissIn : List ℕ → TrafficError → Type 0
IsAmissIn line e = (e ≡ Memory) ⊎ IsAmiss (said_in line) e

-- what lines send, one after the other
abbrev pub AllSend : List (List ℕ) → List Arrival → Type 0
AllSend [] sent = sent ≡ []
AllSend (line ∷ lines) sent = (first : List Arrival) × (behind : List Arrival)
    × Sends (said_in line) first × AllSend lines behind × (sent ≡ first ++ behind)

-- The first line that is no traffic, counted from 1: the lines before it are read, and this one is faulty.
pub record IsFirstAmiss (lines : List (List ℕ)) (fault : TrafficFault) : Type 0 where
  pub index : ℕ
  pub counted : fault.line ≡ index + 1
  pub line : List ℕ
  pub there : slice_get lines index ≡ Some line
  pub before : List Arrival
  pub sent : AllSend (take index lines) before
  pub amiss : IsAmissIn line fault.error
