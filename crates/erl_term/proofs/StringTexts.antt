-- Lemmas on the texts of lists: of the characters of a text, and of the terms of two rows.
use Rattle.std.proofs.Common.{true≢false, ◌≡◌, ℕ, Bool, true, false, ◌&&◌, cond, is_some, List, [], ◌∷◌, ◌++◌, length, Option, Some, None, option_map, append_assoc, sym, ap, ◌∙◌, refl, arith}
use Rattle.std.specs.Prelude.{◌==◌}
use Rattle.std.specs.Option.{option_and_then, option_to_list}
use Rattle.std.specs.List.{list_all, flat_map}
use Rattle.std.specs.Fmt.{decimal}
use Rattle.std.proofs.lemmas.List.{append-nil, flat_map_more}
use Rattle.std.proofs.lemmas.List.Concat.{flat_map-append}
use Rattle.erl_term.specs.declared.term.Term.{Term}
use Rattle.erl_term.specs.Rows.{integers}
use Rattle.erl_term.specs.Tree.{list}
use Rattle.erl_term.specs.Term.{tree, trees}
use Rattle.erl_term.specs.Text.{utf8, printable_char, printable, string_char, string_text, list_text, text, elements_text, others_text}
use Rattle.erl_term.specs.Strings.{printable_chars, has_chars, is_printable, prints_as_string, comma}
use Rattle.erl_term.proofs.Texts.{and_parts, utf8-append, utf8-cons-byte}

-- The characters of a text

-- a character before those of a row, where it is printable
abbrev before : Bool → ℕ → Option (List ℕ) → Option (List ℕ)
before b c r = option_and_then (λ d. option_map (λ ds. d ∷ ds) r) (cond b (Some c) None)

printable-integers : (cs : List ℕ) → list_all is_printable cs ≡ true → printable (integers cs) ≡ Some cs
printable-integers [] all = refl
printable-integers (c ∷ cs) all =
    let both = and_parts (is_printable c) (list_all is_printable cs) all in
    ap (λ b. before b c (printable (integers cs))) both.0 ∙ ap (λ r. before true c r) (printable-integers cs both.1)

unprintable-integers : (cs : List ℕ) → list_all is_printable cs ≡ false → printable (integers cs) ≡ None
unprintable-integers [] other = absurd (let no : ⊥ = cc in no)
unprintable-integers (c ∷ cs) other = by (is_printable c) refl other (λ rest. unprintable-integers cs rest)
  where
    by : (b : Bool) → is_printable c ≡ b → (b && list_all is_printable cs) ≡ false → (list_all is_printable cs ≡ false → printable (integers cs) ≡ None) → printable (integers (c ∷ cs)) ≡ None
    by true is rest others = ap (λ p. before p c (printable (integers cs))) is ∙ ap (λ r. before true c r) (others rest)
    by false is rest others = ap (λ p. before p c (printable (integers cs))) is

-- the text of their list
pub string-text : (cs : List ℕ) → prints_as_string cs ≡ true → text (list (integers cs)) ≡ string_text cs
string-text [] is = absurd (let no : ⊥ = cc in no)
string-text (c ∷ cs) is = ap (λ r. list_text r (elements_text (integers (c ∷ cs)))) (printable-integers (c ∷ cs) is)

pub string-elements : (cs : List ℕ) → prints_as_string cs ≡ false → text (list (integers cs)) ≡ 91 ∷ (elements_text (integers cs) ++ 93 ∷ [])
string-elements [] is = refl
string-elements (c ∷ cs) is = ap (λ r. list_text r (elements_text (integers (c ∷ cs)))) (unprintable-integers (c ∷ cs) is)

-- one character more between double quotes
pub string-more : (cs : List ℕ) (c : ℕ) → utf8 (flat_map string_char cs) ++ utf8 (string_char c) ≡ utf8 (flat_map string_char (cs ++ c ∷ []))
string-more cs c =
    sym (utf8-append (flat_map string_char cs) (string_char c)) ∙ ap utf8 (flat_map_more string_char [] cs c)

-- a comma stands for itself
pub comma-bytes : (b : Bool) (cs : List ℕ) → comma b ++ utf8 cs ≡ utf8 (comma b ++ cs)
comma-bytes true cs = refl
comma-bytes false cs = sym (utf8-cons-byte 44 cs (omega arith))

-- whether there are no characters yet
abbrev pub is_first : List ℕ → Bool
is_first [] = true
is_first (c ∷ cs) = false

pub others-follow : (cs : List ℕ) (c : ℕ) → false ≡ is_first (cs ++ c ∷ [])
others-follow [] c = refl
others-follow (d ∷ ds) c = refl

others-push : (cs : List ℕ) (c : ℕ) → others_text (integers (cs ++ c ∷ [])) ≡ others_text (integers cs) ++ 44 ∷ decimal c
others-push [] c = ap (λ ds. 44 ∷ ds) (append-nil (decimal c))
others-push (d ∷ ds) c =
    ap (λ es. 44 ∷ (decimal d ++ es)) (others-push ds c) ∙ ap (λ es. 44 ∷ es) (sym (append_assoc (decimal d) (others_text (integers ds)) (44 ∷ decimal c)))

elements-push : (cs : List ℕ) (c : ℕ) → elements_text (integers (cs ++ c ∷ [])) ≡ elements_text (integers cs) ++ (comma (is_first cs) ++ decimal c)
elements-push [] c = append-nil (decimal c)
elements-push (d ∷ ds) c =
    ap (λ es. decimal d ++ es) (others-push ds c) ∙ sym (append_assoc (decimal d) (others_text (integers ds)) (44 ∷ decimal c))

-- one code point more
pub code_points-more : (cs : List ℕ) (c : ℕ) (b : Bool) → b ≡ is_first cs → utf8 (elements_text (integers cs)) ++ utf8 (comma b ++ decimal c) ≡ utf8 (elements_text (integers (cs ++ c ∷ [])))
code_points-more cs c b first =
    sym (utf8-append (elements_text (integers cs)) (comma b ++ decimal c)) ∙ ap (λ d. utf8 (elements_text (integers cs) ++ (comma d ++ decimal c))) first ∙ ap utf8 (sym (elements-push cs c))

-- The terms of two rows

-- a row that is not empty by the test
pub some-terms : (ts : List Term) → (length ts == 0) ≡ false → length ts ≡ 0 → ⊥
some-terms ts is empty = true≢false (sym (ap (λ n. n == 0) empty) ∙ is)

joined-some : (o : Option ℕ) (r : Option (List ℕ)) → is_some (option_and_then (λ c. option_map (λ cs. c ∷ cs) r) o) ≡ is_some o && is_some r
joined-some None r = refl
joined-some (Some c) None = refl
joined-some (Some c) (Some cs) = refl

and-assoc : (a b c : Bool) → (a && b) && c ≡ a && (b && c)
and-assoc true b c = refl
and-assoc false b c = refl

printable-both : (ts us : List Term) → is_some (printable (trees (ts ++ us))) ≡ is_some (printable (trees ts)) && is_some (printable (trees us))
printable-both [] us = refl
printable-both (t ∷ ts) us =
    joined-some (printable_char (tree t)) (printable (trees (ts ++ us))) ∙ ap (λ b. is_some (printable_char (tree t)) && b) (printable-both ts us) ∙ sym (and-assoc (is_some (printable_char (tree t))) (is_some (printable (trees ts))) (is_some (printable (trees us)))) ∙ ap (λ b. b && is_some (printable (trees us))) (sym (joined-some (printable_char (tree t)) (printable (trees ts))))

joined-chars : (o : Option ℕ) (r : Option (List ℕ)) → has_chars (option_and_then (λ c. option_map (λ cs. c ∷ cs) r) o) ≡ is_some (option_and_then (λ c. option_map (λ cs. c ∷ cs) r) o)
joined-chars None r = refl
joined-chars (Some c) None = refl
joined-chars (Some c) (Some cs) = refl

-- a row with terms is a string where it is printable
more-chars : (ts : List Term) → (length ts ≡ 0 → ⊥) → has_chars (printable (trees ts)) ≡ is_some (printable (trees ts))
more-chars [] some = absurd (some refl)
more-chars (t ∷ ts) some = joined-chars (printable_char (tree t)) (printable (trees ts))

pub front-string : (ts us : List Term) → (length ts ≡ 0 → ⊥) → is_some (printable (trees ts)) && is_some (printable (trees us)) ≡ has_chars (printable (trees (ts ++ us)))
front-string [] us some = absurd (some refl)
front-string (t ∷ ts) us some =
    sym (more-chars (t ∷ (ts ++ us)) (λ e. omega (arith, e)) ∙ printable-both (t ∷ ts) us)

pub back-string : (ts us : List Term) → length ts ≡ 0 → (length us ≡ 0 → ⊥) → is_some (printable (trees us)) ≡ has_chars (printable (trees (ts ++ us)))
back-string [] us one some = sym (more-chars us some)
back-string (t ∷ ts) us one some = absurd (omega (arith, one))

pub no-string : (ts us : List Term) → length ts ≡ 0 → length us ≡ 0 → false ≡ has_chars (printable (trees (ts ++ us)))
no-string [] [] one other = refl
no-string [] (u ∷ us) one other = absurd (omega (arith, other))
no-string (t ∷ ts) us one other = absurd (omega (arith, one))

chars-behind : (ts us : List Term) → printable_chars (trees (ts ++ us)) ≡ printable_chars (trees ts) ++ printable_chars (trees us)
chars-behind [] us = refl
chars-behind (t ∷ ts) us =
    ap (λ cs. option_to_list (printable_char (tree t)) ++ cs) (chars-behind ts us) ∙ sym (append_assoc (option_to_list (printable_char (tree t))) (printable_chars (trees ts)) (printable_chars (trees us)))

pub chars-both : (ts us : List Term) → utf8 (flat_map string_char (printable_chars (trees ts))) ++ utf8 (flat_map string_char (printable_chars (trees us))) ≡ utf8 (flat_map string_char (printable_chars (trees (ts ++ us))))
chars-both ts us =
    sym (utf8-append (flat_map string_char (printable_chars (trees ts))) (flat_map string_char (printable_chars (trees us)))) ∙ ap utf8 (sym (flat_map-append string_char (printable_chars (trees ts)) (printable_chars (trees us)))) ∙ ap (λ cs. utf8 (flat_map string_char cs)) (sym (chars-behind ts us))

others-both : (ts us : List Term) → others_text (trees (ts ++ us)) ≡ others_text (trees ts) ++ others_text (trees us)
others-both [] us = refl
others-both (t ∷ ts) us =
    ap (λ cs. 44 ∷ (text (tree t) ++ cs)) (others-both ts us) ∙ ap (λ cs. 44 ∷ cs) (sym (append_assoc (text (tree t)) (others_text (trees ts)) (others_text (trees us))))

pub elements-back : (ts us : List Term) → length ts ≡ 0 → utf8 (elements_text (trees us)) ≡ utf8 (elements_text (trees (ts ++ us)))
elements-back [] us one = refl
elements-back (t ∷ ts) us one = absurd (omega (arith, one))

pub elements-both : (ts us : List Term) → (length ts ≡ 0 → ⊥) → utf8 (elements_text (trees ts)) ++ utf8 (others_text (trees us)) ≡ utf8 (elements_text (trees (ts ++ us)))
elements-both [] us some = absurd (some refl)
elements-both (t ∷ ts) us some =
    let front = text (tree t) in
    sym (utf8-append (front ++ others_text (trees ts)) (others_text (trees us))) ∙ ap utf8 (append_assoc front (others_text (trees ts)) (others_text (trees us)) ∙ ap (λ cs. front ++ cs) (sym (others-both ts us)))
