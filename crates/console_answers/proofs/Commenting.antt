-- Lemmas on comments.
use Rattle.std.proofs.Common.{◌≡◌, ℕ, List, [], ◌∷◌, ◌++◌, codes, filter, flat_map, sym, ap, ◌∙◌}
use Rattle.std.proofs.lemmas.Grind.{flat_map-append}
use Rattle.std.proofs.lemmas.List.{append-nil, append_assoc}
use Rattle.console_answers.specs.Comments.{AddsComments, comment, is_no_newline}

-- one text was appended as a comment, in three pieces
pub one_added : (old begun written new text : List ℕ) → begun ≡ old ++ codes "% " → written ≡ begun ++ filter is_no_newline text →
    new ≡ written ++ 10 ∷ [] → AddsComments old new
one_added old begun written new text first second last =
    let line = filter is_no_newline text in
    record {
      texts = text ∷ [];
      appended =
          last
          ∙ ap (λ (l : List ℕ). l ++ 10 ∷ []) (second ∙ ap (λ (l : List ℕ). l ++ line) first)
          ∙ append_assoc (old ++ codes "% ") line (10 ∷ [])
          ∙ append_assoc old (codes "% ") (line ++ 10 ∷ [])
          ∙ ap (λ (l : List ℕ). old ++ l) (sym (append-nil (comment text)));
    }

-- none
pub none_added : (text : List ℕ) → AddsComments text text
none_added text = record { texts = []; appended = sym (append-nil text) }

-- some after others
pub more_added : (before between after : List ℕ) → AddsComments before between → AddsComments between after → AddsComments before after
more_added before between after first second = record {
  texts = first.texts ++ second.texts;
  appended =
      second.appended
      ∙ ap (λ (l : List ℕ). l ++ flat_map comment second.texts) first.appended
      ∙ append_assoc before (flat_map comment first.texts) (flat_map comment second.texts)
      ∙ ap (λ (l : List ℕ). before ++ l) (sym (flat_map-append comment first.texts second.texts));
}
