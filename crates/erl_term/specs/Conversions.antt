-- Values as terms: tuples and lists of values, read and written.
use Rattle.std.specs.Prelude.{List, [], ◌∷◌, Option, option_and_then, option_map}
use Rattle.erl_term.specs.Tree.{Tree, Trees, none, more}
use Rattle.erl_term.specs.Accessors.{list_of, tuple_of, two_of, three_of, all_of}

-- what is read of what was read, if there is something
abbrev pub given : {A B : Type 0} → Option A → (A → Option B) → Option B
given o f = option_and_then f o

-- a list each of whose elements is a value
abbrev pub rows_of : {A : Type 0} → (Tree → Option A) → Tree → Option (List A)
rows_of read t = given (list_of t) (all_of read)

-- a tuple of two or of three values
abbrev pub pair_of : {A B : Type 0} → (Tree → Option A) → (Tree → Option B) → Tree → Option (A × B)
pair_of read_a read_b t =
    given (given (tuple_of t) two_of) (λ p.
    given (read_a p.0) (λ a. option_map (λ b. (a, b)) (read_b p.1)))

abbrev pub triple_of : {A B C : Type 0} → (Tree → Option A) → (Tree → Option B) → (Tree → Option C) → Tree → Option (A × B × C)
triple_of read_a read_b read_c t =
    given (given (tuple_of t) three_of) (λ p.
    given (read_a p.0) (λ a. given (read_b p.1) (λ b. option_map (λ c. (a, b, c)) (read_c p.2))))

-- the elements of a tuple, one behind the other
abbrev pub row : List Tree → Trees
row [] = none
row (t ∷ ts) = more t (row ts)

-- a row of what is written of each item
abbrev pub rows : {A : Type 0} → (A → Tree) → List A → Trees
rows write [] = none
rows write (x ∷ xs) = more (write x) (rows write xs)
