-- What lines send, one line more at a time.
use Rattle.std.proofs.Common.{◌≡◌, ◌∙◌, ◌<◌, ◌≤◌, ℕ, ◌+◌, List, [], ◌∷◌, ◌++◌, refl, sym, ap, subst, length, get_or, take}
use Rattle.std.proofs.lemmas.List.{append-nil, append_assoc, take_all, take_more}
use Rattle.std.proofs.lemmas.Option.{slice_get_read}
use Rattle.client_traffic.specs.Traffic.{Adds, AllSend, IsAmissIn, IsFirstAmiss}
use Rattle.client_traffic.specs.declared.TrafficError.{TrafficError}
use Rattle.upgrade_rehearsal.specs.declared.arrival.Arrival.{Arrival}

send_more : (lines : List (List ℕ)) (line : List ℕ) (sent all : List Arrival) → AllSend lines sent → Adds line sent all →
    AllSend (lines ++ line ∷ []) all
send_more [] line sent all so_far one =
    (one.0, [], one.1, refl, one.2 ∙ ap (λ xs. xs ++ one.0) so_far ∙ sym (append-nil one.0))
send_more (l ∷ ls) line sent all so_far one =
    let rest : List Arrival = so_far.1 ++ one.0 in (
      so_far.0,
      rest,
      so_far.2,
      send_more ls line so_far.1 rest so_far.3 (one.0, one.1, refl),
      one.2 ∙ ap (λ xs. xs ++ one.0) so_far.4 ∙ append_assoc so_far.0 so_far.1 one.0,
    )

-- the next of some lines is read
pub send_next : (lines : List (List ℕ)) (n : ℕ) (line : List ℕ) (sent all : List Arrival) → n < length lines →
    line ≡ get_or lines n line → AllSend (take n lines) sent → Adds line sent all → AllSend (take (n + 1) lines) all
send_next lines n line sent all within item so_far one =
    let more : take (n + 1) lines ≡ take n lines ++ line ∷ [] =
    take_more lines n line within ∙ ap (λ l. take n lines ++ l ∷ []) (sym item) in
    subst (λ ls. AllSend ls all) (sym more) (send_more (take n lines) line sent all so_far one)

pub send_all : (lines : List (List ℕ)) (n : ℕ) (sent : List Arrival) → length lines ≤ n → AllSend (take n lines) sent → AllSend lines sent
send_all lines n sent past so_far = subst (λ ls. AllSend ls sent) (take_all n lines past) so_far

-- or it is faulty, and no line before it was
pub amiss_at : (lines : List (List ℕ)) (n : ℕ) (line : List ℕ) (sent : List Arrival) (error : TrafficError) → n < length lines →
    line ≡ get_or lines n line → AllSend (take n lines) sent → IsAmissIn line error →
    IsFirstAmiss lines (record { line = n + 1; error = error })
amiss_at lines n line sent error within item so_far amiss = record {
  index = n;
  counted = refl;
  line = line;
  there = slice_get_read lines (length lines) n line refl within item;
  before = sent;
  sent = so_far;
  amiss = amiss;
}
