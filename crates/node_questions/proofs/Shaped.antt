-- Shapes of tuples and of loops, by their elements in a row.
use Rattle.std.proofs.Common.{◌≡◌, ◌∙◌, ◌==◌, ◌&&◌, ℕ, Bool, true, List, length, sym, ap}
use Rattle.std.specs.Str.{bytes_eq}
use Rattle.erl_semantics.specs.declared.acts.Place.{Place}
use Rattle.erl_semantics.specs.declared.acts.Place.TheVariants.{Loop}
use Rattle.erl_term.proofs.Rows.{count-trees}
use Rattle.erl_term.specs.Term.{tree, trees}
use Rattle.erl_term.specs.Tree.{Trees, count}
use Rattle.erl_term.specs.declared.term.Term.{Term}
use Rattle.erl_term.specs.declared.term.Term.TheVariants.{Tuple}
use Rattle.node_questions.specs.Shapes.{is_alike, is_same_shape, is_same_tag, tag_of}

-- as many terms are in the rows as in the lists
as_many : (xs ys : List Term) (ts us : Trees) → trees xs ≡ ts → trees ys ≡ us →
    (length xs == length ys) ≡ (count ts == count us)
as_many xs ys ts us one other =
    ap (λ n. n == length ys) (sym (count-trees xs) ∙ ap count one) ∙ ap (λ n. count ts == n) (sym (count-trees ys) ∙ ap count
    other)

pub same_tuple : (one other : Term) (ts us : Trees) (xs ys : List Term) (told : Bool) → one ≡ Tuple ts → other ≡ Tuple us →
    trees xs ≡ ts → trees ys ≡ us → told ≡ ((length xs == length ys) && is_same_tag (tag_of (trees xs)) (tag_of (trees ys))) →
    told ≡ is_same_shape (tree one) (tree other)
same_tuple one other ts us xs ys told first second row other_row is =
    let tags : is_same_tag (tag_of (trees xs)) (tag_of (trees ys)) ≡ is_same_tag (tag_of ts) (tag_of us) =
    ap (λ r. is_same_tag (tag_of r) (tag_of (trees ys))) row ∙ ap (λ r. is_same_tag (tag_of ts) (tag_of r)) other_row in
    let shape : told ≡ is_same_shape (tree (Tuple ts)) (tree (Tuple us)) =
    is ∙ ap (λ b. b && is_same_tag (tag_of (trees xs)) (tag_of (trees ys))) (as_many xs ys ts us row other_row)
    ∙ ap (λ b. (count ts == count us) && b) tags in
    shape ∙ ap (λ t. is_same_shape (tree t) (tree (Tuple us))) (sym first) ∙ ap (λ t. is_same_shape (tree one) (tree t)) (sym
    second)

pub same_loop : (one other : Place) (m n f g : List ℕ) (i j : ℕ) (ts us : Trees) (xs ys : List Term) → one ≡ Loop m i f ts →
    other ≡ Loop n j g us → trees xs ≡ ts → trees ys ≡ us → bytes_eq m n ≡ true → bytes_eq f g ≡ true →
    (length xs == length ys) ≡ is_alike one other
same_loop one other m n f g i j ts us xs ys first second row other_row in_one of_one =
    let alike : (length xs == length ys) ≡ is_alike (Loop m i f ts) (Loop n j g us) =
    as_many xs ys ts us row other_row
    ∙ sym (ap (λ b. b && (bytes_eq f g && (count ts == count us))) in_one ∙ ap (λ b. b && (count ts == count us)) of_one) in
    alike ∙ ap (λ p. is_alike p (Loop n j g us)) (sym first) ∙ ap (λ p. is_alike one p) (sym second)
