-- The grammar as a machine from token to token, without offsets and without limits: what it takes is what a text begins
-- with.
use Rattle.std.proofs.Common.{◌≡◌, ℕ, Bool, true, false, List, [], ◌∷◌, ◌++◌, Some, None, refl, ap, sym, subst, ◌∙◌, append_assoc}
use Rattle.std.specs.Prelude.{Option}
use Rattle.std.specs.Option.{option_and_then}
use Rattle.std.specs.List.{flat_map}
use Rattle.std.proofs.lemmas.List.{append-nil}
use Rattle.std.proofs.lemmas.Option.{none-some, same_Some}
use Rattle.erl_consult.specs.Grammar.{Part, number, minus, plus, name, string, open_tuple, close_tuple, open_list, close_list, comma, bar, dot, unread, foreign, Form, Forms, unsigned, negative, positive, atom_form, strings, empty_tuple, some_tuple, empty_list, some_list, tailed_list, start, then, form_parts, with_commas, text_parts, IsStart}

-- an open bracket, with the elements that a comma or the bar ended
pub data Standing : Type 0 where
  in_tuple : Forms → Standing
  in_list : Forms → Standing
  in_tail : Forms → Form → Standing

-- what was read of the form that is being read
pub data Read : Type 0 where
  no_form : Read
  sign_read : Bool → Read
  form_read : Form → Read
  strings_read : List ℕ → List (List ℕ) → Read

-- the forms that a dot ended, the open brackets, the innermost first, and what is being read
pub data State : Type 0 where
  state : Forms → List Standing → Read → State

abbrev pub form_of : Read → Option Form
form_of no_form = None
form_of (sign_read m) = None
form_of (form_read f) = Some f
form_of (strings_read cs others) = Some (strings cs others)

-- a form begins
abbrev pub fresh : Forms → List Standing → Read → Read → Option State
fresh w os no_form r = Some (state w os r)
fresh w os (sign_read m) r = None
fresh w os (form_read f) r = None
fresh w os (strings_read cs others) r = None

abbrev pub signed : Bool → ℕ → Form
signed true n = negative n
signed false n = positive n

abbrev pub step_number : Forms → List Standing → Read → ℕ → Option State
step_number w os no_form n = Some (state w os (form_read (unsigned n)))
step_number w os (sign_read m) n = Some (state w os (form_read (signed m n)))
step_number w os (form_read f) n = None
step_number w os (strings_read cs others) n = None

abbrev pub step_string : Forms → List Standing → Read → List ℕ → Option State
step_string w os no_form ds = Some (state w os (strings_read ds []))
step_string w os (sign_read m) ds = None
step_string w os (form_read f) ds = None
step_string w os (strings_read cs others) ds = Some (state w os (strings_read cs (others ++ ds ∷ [])))

abbrev pub step_open : Forms → List Standing → Read → Standing → Option State
step_open w os no_form o = Some (state w (o ∷ os) no_form)
step_open w os (sign_read m) o = None
step_open w os (form_read f) o = None
step_open w os (strings_read cs others) o = None

-- at a closing bracket
abbrev pub closed_form : Form → (Forms → Form → Form) → Forms → Read → Option Form
closed_form empty some start no_form = Some empty
closed_form empty some (then fs f) no_form = None
closed_form empty some fs (sign_read m) = None
closed_form empty some fs (form_read g) = Some (some fs g)
closed_form empty some fs (strings_read cs others) = Some (some fs (strings cs others))

abbrev pub closed_state : Forms → List Standing → Option Form → Option State
closed_state w os None = None
closed_state w os (Some f) = Some (state w os (form_read f))

abbrev pub tailed : Forms → Form → Option Form → Option Form
tailed fs f None = None
tailed fs f (Some tail) = Some (tailed_list fs f tail)

abbrev pub step_close_tuple : Forms → List Standing → Read → Option State
step_close_tuple w [] r = None
step_close_tuple w (in_tuple fs ∷ os) r = closed_state w os (closed_form empty_tuple some_tuple fs r)
step_close_tuple w (in_list fs ∷ os) r = None
step_close_tuple w (in_tail fs f ∷ os) r = None

abbrev pub step_close_list : Forms → List Standing → Read → Option State
step_close_list w [] r = None
step_close_list w (in_tuple fs ∷ os) r = None
step_close_list w (in_list fs ∷ os) r = closed_state w os (closed_form empty_list some_list fs r)
step_close_list w (in_tail fs f ∷ os) r = closed_state w os (tailed fs f (form_of r))

-- an element ends
abbrev pub ended : Forms → List Standing → (Form → Standing) → Option Form → Option State
ended w os o None = None
ended w os o (Some f) = Some (state w (o f ∷ os) no_form)

abbrev pub step_comma : Forms → List Standing → Read → Option State
step_comma w [] r = None
step_comma w (in_tuple fs ∷ os) r = ended w os (λ f. in_tuple (then fs f)) (form_of r)
step_comma w (in_list fs ∷ os) r = ended w os (λ f. in_list (then fs f)) (form_of r)
step_comma w (in_tail fs f ∷ os) r = None

abbrev pub step_bar : Forms → List Standing → Read → Option State
step_bar w [] r = None
step_bar w (in_tuple fs ∷ os) r = None
step_bar w (in_list fs ∷ os) r = ended w os (λ f. in_tail fs f) (form_of r)
step_bar w (in_tail fs f ∷ os) r = None

abbrev pub dotted : Forms → Option Form → Option State
dotted w None = None
dotted w (Some f) = Some (state (then w f) [] no_form)

abbrev pub step_dot : Forms → List Standing → Read → Option State
step_dot w [] r = dotted w (form_of r)
step_dot w (o ∷ os) r = None

abbrev pub step : State → Part → Option State
step (state w os r) (number n) = step_number w os r n
step (state w os r) minus = fresh w os r (sign_read true)
step (state w os r) plus = fresh w os r (sign_read false)
step (state w os r) (name cs) = fresh w os r (form_read (atom_form cs))
step (state w os r) (string cs) = step_string w os r cs
step (state w os r) open_tuple = step_open w os r (in_tuple start)
step (state w os r) close_tuple = step_close_tuple w os r
step (state w os r) open_list = step_open w os r (in_list start)
step (state w os r) close_list = step_close_list w os r
step (state w os r) comma = step_comma w os r
step (state w os r) bar = step_bar w os r
step (state w os r) dot = step_dot w os r
step (state w os r) unread = None
step (state w os r) foreign = None

abbrev pub run : State → List Part → Option State
run s [] = Some s
run s (p ∷ ps) = option_and_then (λ t. run t ps) (step s p)

abbrev pub beginning : State
beginning = state start [] no_form

-- what a whole form leaves
abbrev pub read_of : Form → Read
read_of (unsigned n) = form_read (unsigned n)
read_of (negative n) = form_read (negative n)
read_of (positive n) = form_read (positive n)
read_of (atom_form cs) = form_read (atom_form cs)
read_of (strings cs others) = strings_read cs others
read_of empty_tuple = form_read empty_tuple
read_of (some_tuple fs f) = form_read (some_tuple fs f)
read_of empty_list = form_read empty_list
read_of (some_list fs f) = form_read (some_list fs f)
read_of (tailed_list fs f tail) = form_read (tailed_list fs f tail)

form_of-read : (f : Form) → form_of (read_of f) ≡ Some f
form_of-read (unsigned n) = refl
form_of-read (negative n) = refl
form_of-read (positive n) = refl
form_of-read (atom_form cs) = refl
form_of-read (strings cs others) = refl
form_of-read empty_tuple = refl
form_of-read (some_tuple fs f) = refl
form_of-read empty_list = refl
form_of-read (some_list fs f) = refl
form_of-read (tailed_list fs f tail) = refl

closed_form-read : (empty : Form) (some : Forms → Form → Form) (fs : Forms) (f : Form) → closed_form empty some fs (read_of f) ≡ Some (some fs f)
closed_form-read empty some fs (unsigned n) = refl
closed_form-read empty some fs (negative n) = refl
closed_form-read empty some fs (positive n) = refl
closed_form-read empty some fs (atom_form cs) = refl
closed_form-read empty some fs (strings cs others) = refl
closed_form-read empty some fs empty_tuple = refl
closed_form-read empty some fs (some_tuple gs f) = refl
closed_form-read empty some fs empty_list = refl
closed_form-read empty some fs (some_list gs f) = refl
closed_form-read empty some fs (tailed_list gs f tail) = refl

abbrev then_run : List Part → Option State → Option State
then_run ps s = option_and_then (λ t. run t ps) s

-- strings behind one another
run-strings : (w : Forms) (os : List Standing) (cs : List ℕ) (done others : List (List ℕ)) (rest : List Part) → run (state w os (strings_read cs done)) (flat_map (λ ds. string ds ∷ []) others ++ rest) ≡ run (state w os (strings_read cs (done ++ others))) rest
run-strings w os cs done [] rest = ap (λ all. run (state w os (strings_read cs all)) rest) (sym (append-nil done))
run-strings w os cs done (d ∷ ds) rest =
    run-strings w os cs (done ++ d ∷ []) ds rest ∙ ap (λ all. run (state w os (strings_read cs all)) rest) (append_assoc done (d ∷ []) ds)

mutual
  -- a whole form is taken
  pub run-form : (f : Form) (w : Forms) (os : List Standing) (rest : List Part) → run (state w os no_form) (form_parts f ++ rest) ≡ run (state w os (read_of f)) rest
  run-form (unsigned n) w os rest = refl
  run-form (negative n) w os rest = refl
  run-form (positive n) w os rest = refl
  run-form (atom_form cs) w os rest = refl
  run-form (strings cs others) w os rest = run-strings w os cs [] others rest
  run-form empty_tuple w os rest = refl
  run-form (some_tuple fs f) w os rest =
      ap (run (state w (in_tuple start ∷ os) no_form)) (append_assoc (with_commas fs) (form_parts f ++ close_tuple ∷ []) rest) ∙ (run-tuple fs w os ((form_parts f ++ close_tuple ∷ []) ++ rest) ∙ (ap (run (state w (in_tuple fs ∷ os) no_form)) (append_assoc (form_parts f) (close_tuple ∷ []) rest) ∙ (run-form f w (in_tuple fs ∷ os) (close_tuple ∷ rest) ∙ ap (λ o. then_run rest (closed_state w os o)) (closed_form-read empty_tuple some_tuple fs f))))
  run-form empty_list w os rest = refl
  run-form (some_list fs f) w os rest =
      ap (run (state w (in_list start ∷ os) no_form)) (append_assoc (with_commas fs) (form_parts f ++ close_list ∷ []) rest) ∙ (run-list fs w os ((form_parts f ++ close_list ∷ []) ++ rest) ∙ (ap (run (state w (in_list fs ∷ os) no_form)) (append_assoc (form_parts f) (close_list ∷ []) rest) ∙ (run-form f w (in_list fs ∷ os) (close_list ∷ rest) ∙ ap (λ o. then_run rest (closed_state w os o)) (closed_form-read empty_list some_list fs f))))
  run-form (tailed_list fs f tail) w os rest =
      ap (run (state w (in_list start ∷ os) no_form)) (append_assoc (with_commas fs) (form_parts f ++ (bar ∷ (form_parts tail ++ close_list ∷ []))) rest) ∙ (run-list fs w os ((form_parts f ++ (bar ∷ (form_parts tail ++ close_list ∷ []))) ++ rest) ∙ (ap (run (state w (in_list fs ∷ os) no_form)) (append_assoc (form_parts f) (bar ∷ (form_parts tail ++ close_list ∷ [])) rest) ∙ (run-form f w (in_list fs ∷ os) (bar ∷ ((form_parts tail ++ close_list ∷ []) ++ rest)) ∙ (ap (λ o. then_run ((form_parts tail ++ close_list ∷ []) ++ rest) (ended w os (λ g. in_tail fs g) o)) (form_of-read f) ∙ (ap (run (state w (in_tail fs f ∷ os) no_form)) (append_assoc (form_parts tail) (close_list ∷ []) rest) ∙ (run-form tail w (in_tail fs f ∷ os) (close_list ∷ rest) ∙ ap (λ o. then_run rest (closed_state w os (tailed fs f o))) (form_of-read tail)))))))

  -- elements, each with its comma
  run-tuple : (fs : Forms) (w : Forms) (os : List Standing) (rest : List Part) → run (state w (in_tuple start ∷ os) no_form) (with_commas fs ++ rest) ≡ run (state w (in_tuple fs ∷ os) no_form) rest
  run-tuple start w os rest = refl
  run-tuple (then fs f) w os rest =
      ap (run (state w (in_tuple start ∷ os) no_form)) (append_assoc (with_commas fs) (form_parts f ++ comma ∷ []) rest) ∙ (run-tuple fs w os ((form_parts f ++ comma ∷ []) ++ rest) ∙ (ap (run (state w (in_tuple fs ∷ os) no_form)) (append_assoc (form_parts f) (comma ∷ []) rest) ∙ (run-form f w (in_tuple fs ∷ os) (comma ∷ rest) ∙ ap (λ o. then_run rest (ended w os (λ g. in_tuple (then fs g)) o)) (form_of-read f))))

  run-list : (fs : Forms) (w : Forms) (os : List Standing) (rest : List Part) → run (state w (in_list start ∷ os) no_form) (with_commas fs ++ rest) ≡ run (state w (in_list fs ∷ os) no_form) rest
  run-list start w os rest = refl
  run-list (then fs f) w os rest =
      ap (run (state w (in_list start ∷ os) no_form)) (append_assoc (with_commas fs) (form_parts f ++ comma ∷ []) rest) ∙ (run-list fs w os ((form_parts f ++ comma ∷ []) ++ rest) ∙ (ap (run (state w (in_list fs ∷ os) no_form)) (append_assoc (form_parts f) (comma ∷ []) rest) ∙ (run-form f w (in_list fs ∷ os) (comma ∷ rest) ∙ ap (λ o. then_run rest (ended w os (λ g. in_list (then fs g)) o)) (form_of-read f))))

-- a text is taken
pub run-text : (fs : Forms) (rest : List Part) → run beginning (text_parts fs ++ rest) ≡ run (state fs [] no_form) rest
run-text start rest = refl
run-text (then fs f) rest =
    ap (run beginning) (append_assoc (text_parts fs) (form_parts f ++ dot ∷ []) rest) ∙ (run-text fs ((form_parts f ++ dot ∷ []) ++ rest) ∙ (ap (run (state fs [] no_form)) (append_assoc (form_parts f) (dot ∷ []) rest) ∙ (run-form f fs [] (dot ∷ rest) ∙ ap (λ o. then_run rest (dotted fs o)) (form_of-read f))))

-- The tokens that a state was made of

abbrev pub standing_parts : Standing → List Part
standing_parts (in_tuple fs) = open_tuple ∷ with_commas fs
standing_parts (in_list fs) = open_list ∷ with_commas fs
standing_parts (in_tail fs f) = open_list ∷ (with_commas fs ++ (form_parts f ++ bar ∷ []))

abbrev pub open_parts : List Standing → List Part
open_parts [] = []
open_parts (o ∷ os) = open_parts os ++ standing_parts o

abbrev pub sign_part : Bool → Part
sign_part true = minus
sign_part false = plus

abbrev pub read_parts : Read → List Part
read_parts no_form = []
read_parts (sign_read m) = sign_part m ∷ []
read_parts (form_read f) = form_parts f
read_parts (strings_read cs others) = form_parts (strings cs others)

abbrev pub spells : State → List Part
spells (state w os r) = text_parts w ++ (open_parts os ++ read_parts r)

form_of-parts : (r : Read) (f : Form) → form_of r ≡ Some f → read_parts r ≡ form_parts f
form_of-parts no_form f e = absurd (none-some f e)
form_of-parts (sign_read m) f e = absurd (none-some f e)
form_of-parts (form_read g) f e = ap form_parts (same_Some g f e)
form_of-parts (strings_read cs others) f e = ap form_parts (same_Some (strings cs others) f e)

three : (a b c d : List Part) → (a ++ (b ++ c)) ++ d ≡ a ++ (b ++ (c ++ d))
three a b c d = append_assoc a (b ++ c) d ∙ ap (λ x. a ++ x) (append_assoc b c d)

four : (a b s c d : List Part) → (a ++ ((b ++ s) ++ c)) ++ d ≡ a ++ (b ++ (s ++ (c ++ d)))
four a b s c d = three a (b ++ s) c d ∙ ap (λ x. a ++ x) (append_assoc b s (c ++ d))

-- the last grows by a token
grown : (w : Forms) (os : List Standing) (r s : Read) (p : Part) → read_parts s ≡ read_parts r ++ p ∷ [] → spells (state w os s) ≡ spells (state w os r) ++ p ∷ []
grown w os r s p e =
    ap (λ x. text_parts w ++ (open_parts os ++ x)) e ∙ sym (three (text_parts w) (open_parts os) (read_parts r) (p ∷ []))

spell-fresh : (w : Forms) (os : List Standing) (r s : Read) (p : Part) (t : State) → read_parts s ≡ p ∷ [] → fresh w os r s ≡ Some t → spells t ≡ spells (state w os r) ++ p ∷ []
spell-fresh w os no_form s p t is e = ap spells (sym (same_Some (state w os s) t e)) ∙ grown w os no_form s p is
spell-fresh w os (sign_read m) s p t is e = absurd (none-some t e)
spell-fresh w os (form_read f) s p t is e = absurd (none-some t e)
spell-fresh w os (strings_read cs others) s p t is e = absurd (none-some t e)

pub signed-parts : (m : Bool) (n : ℕ) → form_parts (signed m n) ≡ sign_part m ∷ number n ∷ []
signed-parts true n = refl
signed-parts false n = refl

spell-number : (w : Forms) (os : List Standing) (r : Read) (n : ℕ) (t : State) → step_number w os r n ≡ Some t → spells t ≡ spells (state w os r) ++ number n ∷ []
spell-number w os no_form n t e =
    ap spells (sym (same_Some (state w os (form_read (unsigned n))) t e)) ∙ grown w os no_form (form_read (unsigned n)) (number n) refl
spell-number w os (sign_read m) n t e =
    ap spells (sym (same_Some (state w os (form_read (signed m n))) t e)) ∙ grown w os (sign_read m) (form_read (signed m n)) (number n) (signed-parts m n)
spell-number w os (form_read f) n t e = absurd (none-some t e)
spell-number w os (strings_read cs others) n t e = absurd (none-some t e)

strings-more : (others : List (List ℕ)) (ds : List ℕ) → flat_map (λ es. string es ∷ []) (others ++ ds ∷ []) ≡ flat_map (λ es. string es ∷ []) others ++ string ds ∷ []
strings-more [] ds = refl
strings-more (c ∷ cs) ds = ap (λ x. string c ∷ x) (strings-more cs ds)

spell-string : (w : Forms) (os : List Standing) (r : Read) (ds : List ℕ) (t : State) → step_string w os r ds ≡ Some t → spells t ≡ spells (state w os r) ++ string ds ∷ []
spell-string w os no_form ds t e =
    ap spells (sym (same_Some (state w os (strings_read ds [])) t e)) ∙ grown w os no_form (strings_read ds []) (string ds) refl
spell-string w os (sign_read m) ds t e = absurd (none-some t e)
spell-string w os (form_read f) ds t e = absurd (none-some t e)
spell-string w os (strings_read cs others) ds t e =
    ap spells (sym (same_Some (state w os (strings_read cs (others ++ ds ∷ []))) t e)) ∙ grown w os (strings_read cs others) (strings_read cs (others ++ ds ∷ [])) (string ds) (ap (λ x. string cs ∷ x) (strings-more others ds))

spell-open : (w : Forms) (os : List Standing) (r : Read) (o : Standing) (p : Part) (t : State) → standing_parts o ≡ p ∷ [] → step_open w os r o ≡ Some t → spells t ≡ spells (state w os r) ++ p ∷ []
spell-open w os no_form o p t is e =
    ap spells (sym (same_Some (state w (o ∷ os) no_form) t e)) ∙ (ap (λ x. text_parts w ++ x) (append-nil (open_parts os ++ standing_parts o)) ∙ (ap (λ x. text_parts w ++ (open_parts os ++ x)) is ∙ sym (three (text_parts w) (open_parts os) [] (p ∷ []))))
spell-open w os (sign_read m) o p t is e = absurd (none-some t e)
spell-open w os (form_read f) o p t is e = absurd (none-some t e)
spell-open w os (strings_read cs others) o p t is e = absurd (none-some t e)

-- a bracket closes: the form in its place
closes : (w : Forms) (os : List Standing) (o : Standing) (r : Read) (g : Form) (p : Part) (t : State) → form_parts g ≡ standing_parts o ++ (read_parts r ++ p ∷ []) → Some (state w os (form_read g)) ≡ Some t → spells t ≡ spells (state w (o ∷ os) r) ++ p ∷ []
closes w os o r g p t is e =
    ap spells (sym (same_Some (state w os (form_read g)) t e)) ∙ (ap (λ x. text_parts w ++ (open_parts os ++ x)) is ∙ sym (four (text_parts w) (open_parts os) (standing_parts o) (read_parts r) (p ∷ [])))

-- the bracket stays open, with one more element
stays : (w : Forms) (os : List Standing) (o q : Standing) (r : Read) (p : Part) (t : State) → standing_parts q ≡ standing_parts o ++ (read_parts r ++ p ∷ []) → Some (state w (q ∷ os) no_form) ≡ Some t → spells t ≡ spells (state w (o ∷ os) r) ++ p ∷ []
stays w os o q r p t is e =
    ap spells (sym (same_Some (state w (q ∷ os) no_form) t e)) ∙ (ap (λ x. text_parts w ++ x) (append-nil (open_parts os ++ standing_parts q)) ∙ (ap (λ x. text_parts w ++ (open_parts os ++ x)) is ∙ sym (four (text_parts w) (open_parts os) (standing_parts o) (read_parts r) (p ∷ []))))

spell-close_tuple : (w : Forms) (os : List Standing) (r : Read) (t : State) → step_close_tuple w os r ≡ Some t → spells t ≡ spells (state w os r) ++ close_tuple ∷ []
spell-close_tuple w [] r t e = absurd (none-some t e)
spell-close_tuple w (in_tuple start ∷ os) no_form t e = closes w os (in_tuple start) no_form empty_tuple close_tuple t refl e
spell-close_tuple w (in_tuple (then fs f) ∷ os) no_form t e = absurd (none-some t e)
spell-close_tuple w (in_tuple fs ∷ os) (sign_read m) t e = absurd (none-some t e)
spell-close_tuple w (in_tuple fs ∷ os) (form_read f) t e = closes w os (in_tuple fs) (form_read f) (some_tuple fs f) close_tuple t refl e
spell-close_tuple w (in_tuple fs ∷ os) (strings_read cs others) t e =
    closes w os (in_tuple fs) (strings_read cs others) (some_tuple fs (strings cs others)) close_tuple t refl e
spell-close_tuple w (in_list fs ∷ os) r t e = absurd (none-some t e)
spell-close_tuple w (in_tail fs f ∷ os) r t e = absurd (none-some t e)

tail-parts : (fs : Forms) (f : Form) (r : Read) (g : Form) → form_of r ≡ Some g → form_parts (tailed_list fs f g) ≡ standing_parts (in_tail fs f) ++ (read_parts r ++ close_list ∷ [])
tail-parts fs f r g is =
    ap (λ x. open_list ∷ x) (ap (λ x. with_commas fs ++ (form_parts f ++ (bar ∷ (x ++ close_list ∷ [])))) (sym (form_of-parts r g is)) ∙ sym (three-bar (with_commas fs) (form_parts f) (read_parts r ++ close_list ∷ [])))
  where
    three-bar : (a b c : List Part) → (a ++ (b ++ bar ∷ [])) ++ c ≡ a ++ (b ++ (bar ∷ c))
    three-bar a b c = three a b (bar ∷ []) c

spell-close_list : (w : Forms) (os : List Standing) (r : Read) (t : State) → step_close_list w os r ≡ Some t → spells t ≡ spells (state w os r) ++ close_list ∷ []
spell-close_list w [] r t e = absurd (none-some t e)
spell-close_list w (in_tuple fs ∷ os) r t e = absurd (none-some t e)
spell-close_list w (in_list start ∷ os) no_form t e = closes w os (in_list start) no_form empty_list close_list t refl e
spell-close_list w (in_list (then fs f) ∷ os) no_form t e = absurd (none-some t e)
spell-close_list w (in_list fs ∷ os) (sign_read m) t e = absurd (none-some t e)
spell-close_list w (in_list fs ∷ os) (form_read f) t e = closes w os (in_list fs) (form_read f) (some_list fs f) close_list t refl e
spell-close_list w (in_list fs ∷ os) (strings_read cs others) t e =
    closes w os (in_list fs) (strings_read cs others) (some_list fs (strings cs others)) close_list t refl e
spell-close_list w (in_tail fs f ∷ os) no_form t e = absurd (none-some t e)
spell-close_list w (in_tail fs f ∷ os) (sign_read m) t e = absurd (none-some t e)
spell-close_list w (in_tail fs f ∷ os) (form_read g) t e =
    closes w os (in_tail fs f) (form_read g) (tailed_list fs f g) close_list t (tail-parts fs f (form_read g) g refl) e
spell-close_list w (in_tail fs f ∷ os) (strings_read cs others) t e =
    closes w os (in_tail fs f) (strings_read cs others) (tailed_list fs f (strings cs others)) close_list t (tail-parts fs f (strings_read cs others) (strings cs others) refl) e

-- an element ends, by the form that was read
spell-ended : (w : Forms) (os : List Standing) (o : Standing) (next : Form → Standing) (r : Read) (read : Option Form) (p : Part) (t : State) → form_of r ≡ read → ((f : Form) → read_parts r ≡ form_parts f → standing_parts (next f) ≡ standing_parts o ++ (read_parts r ++ p ∷ [])) → ended w os next read ≡ Some t → spells t ≡ spells (state w (o ∷ os) r) ++ p ∷ []
spell-ended w os o next r None p t is parts e = absurd (none-some t e)
spell-ended w os o next r (Some f) p t is parts e = stays w os o (next f) r p t (parts f (form_of-parts r f is)) e

spell-comma : (w : Forms) (os : List Standing) (r : Read) (t : State) → step_comma w os r ≡ Some t → spells t ≡ spells (state w os r) ++ comma ∷ []
spell-comma w [] r t e = absurd (none-some t e)
spell-comma w (in_tuple fs ∷ os) r t e =
    spell-ended w os (in_tuple fs) (λ f. in_tuple (then fs f)) r (form_of r) comma t refl (λ f is. ap (λ x. open_tuple ∷ (with_commas fs ++ (x ++ comma ∷ []))) (sym is)) e
spell-comma w (in_list fs ∷ os) r t e =
    spell-ended w os (in_list fs) (λ f. in_list (then fs f)) r (form_of r) comma t refl (λ f is. ap (λ x. open_list ∷ (with_commas fs ++ (x ++ comma ∷ []))) (sym is)) e
spell-comma w (in_tail fs f ∷ os) r t e = absurd (none-some t e)

spell-bar : (w : Forms) (os : List Standing) (r : Read) (t : State) → step_bar w os r ≡ Some t → spells t ≡ spells (state w os r) ++ bar ∷ []
spell-bar w [] r t e = absurd (none-some t e)
spell-bar w (in_tuple fs ∷ os) r t e = absurd (none-some t e)
spell-bar w (in_list fs ∷ os) r t e =
    spell-ended w os (in_list fs) (λ f. in_tail fs f) r (form_of r) bar t refl (λ f is. ap (λ x. open_list ∷ (with_commas fs ++ (x ++ bar ∷ []))) (sym is)) e
spell-bar w (in_tail fs f ∷ os) r t e = absurd (none-some t e)

spell-dotted : (w : Forms) (r : Read) (read : Option Form) (t : State) → form_of r ≡ read → dotted w read ≡ Some t → spells t ≡ spells (state w [] r) ++ dot ∷ []
spell-dotted w r None t is e = absurd (none-some t e)
spell-dotted w r (Some f) t is e =
    ap spells (sym (same_Some (state (then w f) [] no_form) t e)) ∙ (append-nil (text_parts w ++ (form_parts f ++ dot ∷ [])) ∙ (ap (λ x. text_parts w ++ (x ++ dot ∷ [])) (sym (form_of-parts r f is)) ∙ sym (append_assoc (text_parts w) (read_parts r) (dot ∷ []))))

spell-dot : (w : Forms) (os : List Standing) (r : Read) (t : State) → step_dot w os r ≡ Some t → spells t ≡ spells (state w os r) ++ dot ∷ []
spell-dot w [] r t e = spell-dotted w r (form_of r) t refl e
spell-dot w (o ∷ os) r t e = absurd (none-some t e)

-- a step spells its token
spell-step : (s t : State) (p : Part) → step s p ≡ Some t → spells t ≡ spells s ++ p ∷ []
spell-step (state w os r) t (number n) e = spell-number w os r n t e
spell-step (state w os r) t minus e = spell-fresh w os r (sign_read true) minus t refl e
spell-step (state w os r) t plus e = spell-fresh w os r (sign_read false) plus t refl e
spell-step (state w os r) t (name cs) e = spell-fresh w os r (form_read (atom_form cs)) (name cs) t refl e
spell-step (state w os r) t (string cs) e = spell-string w os r cs t e
spell-step (state w os r) t open_tuple e = spell-open w os r (in_tuple start) open_tuple t refl e
spell-step (state w os r) t close_tuple e = spell-close_tuple w os r t e
spell-step (state w os r) t open_list e = spell-open w os r (in_list start) open_list t refl e
spell-step (state w os r) t close_list e = spell-close_list w os r t e
spell-step (state w os r) t comma e = spell-comma w os r t e
spell-step (state w os r) t bar e = spell-bar w os r t e
spell-step (state w os r) t dot e = spell-dot w os r t e
spell-step (state w os r) t unread e = absurd (none-some t e)
spell-step (state w os r) t foreign e = absurd (none-some t e)

-- what was taken is what the state spells
spell-on : (p : Part) (ps : List Part) (s t : State) (next : Option State) → ((u : State) → run u ps ≡ Some t → spells t ≡ spells u ++ ps) → step s p ≡ next → option_and_then (λ u. run u ps) next ≡ Some t → spells t ≡ spells s ++ (p ∷ ps)
spell-on p ps s t None later is e = absurd (none-some t e)
spell-on p ps s t (Some u) later is e =
    later u e ∙ (ap (λ x. x ++ ps) (spell-step s u p is) ∙ append_assoc (spells s) (p ∷ []) ps)

pub spell-run : (ps : List Part) (s t : State) → run s ps ≡ Some t → spells t ≡ spells s ++ ps
spell-run [] s t e = ap spells (sym (same_Some s t e)) ∙ sym (append-nil (spells s))
spell-run (p ∷ ps) s t e = spell-on p ps s t (step s p) (λ u. spell-run ps u t) refl e

-- Each state is a start

-- what closes the brackets behind a form, and the dot that ends it
abbrev pub closers : List Standing → List Part
closers [] = dot ∷ []
closers (in_tuple fs ∷ os) = close_tuple ∷ closers os
closers (in_list fs ∷ os) = close_list ∷ closers os
closers (in_tail fs g ∷ os) = close_list ∷ closers os

-- the forms of the text that it is then
abbrev pub closed_up : List Standing → Forms → Form → Forms
closed_up [] w f = then w f
closed_up (in_tuple fs ∷ os) w f = closed_up os w (some_tuple fs f)
closed_up (in_list fs ∷ os) w f = closed_up os w (some_list fs f)
closed_up (in_tail fs g ∷ os) w f = closed_up os w (tailed_list fs g f)

complete : (os : List Standing) (w : Forms) (f : Form) → text_parts w ++ (open_parts os ++ (form_parts f ++ closers os)) ≡ text_parts (closed_up os w f)
complete [] w f = refl
complete (in_tuple fs ∷ os) w f =
    ap (λ x. text_parts w ++ x) (append_assoc (open_parts os) (open_tuple ∷ with_commas fs) (form_parts f ++ (close_tuple ∷ closers os)) ∙ ap (λ x. open_parts os ++ (open_tuple ∷ x)) (sym (three (with_commas fs) (form_parts f) (close_tuple ∷ []) (closers os)))) ∙ complete os w (some_tuple fs f)
complete (in_list fs ∷ os) w f =
    ap (λ x. text_parts w ++ x) (append_assoc (open_parts os) (open_list ∷ with_commas fs) (form_parts f ++ (close_list ∷ closers os)) ∙ ap (λ x. open_parts os ++ (open_list ∷ x)) (sym (three (with_commas fs) (form_parts f) (close_list ∷ []) (closers os)))) ∙ complete os w (some_list fs f)
complete (in_tail fs g ∷ os) w f =
    ap (λ x. text_parts w ++ x) (append_assoc (open_parts os) (open_list ∷ (with_commas fs ++ (form_parts g ++ bar ∷ []))) (form_parts f ++ (close_list ∷ closers os)) ∙ ap (λ x. open_parts os ++ (open_list ∷ x)) (three (with_commas fs) (form_parts g) (bar ∷ []) (form_parts f ++ (close_list ∷ closers os)) ∙ sym (tail-in (with_commas fs) (form_parts g) (form_parts f) (closers os)))) ∙ complete os w (tailed_list fs g f)
  where
    tail-in : (a b d e : List Part) → (a ++ (b ++ (bar ∷ (d ++ close_list ∷ [])))) ++ e ≡ a ++ (b ++ (bar ∷ (d ++ (close_list ∷ e))))
    tail-in a b d e = three a b (bar ∷ (d ++ close_list ∷ [])) e ∙ ap (λ x. a ++ (b ++ (bar ∷ x))) (append_assoc d (close_list ∷ []) e)

-- a form is completed
complete_read : (r : Read) → (more : List Part) × ((f : Form) × (read_parts r ++ more ≡ form_parts f))
complete_read no_form = (number 0 ∷ [], (unsigned 0, refl))
complete_read (sign_read m) = (number 0 ∷ [], (signed m 0, sym (signed-parts m 0)))
complete_read (form_read f) = ([], (f, append-nil (form_parts f)))
complete_read (strings_read cs others) = ([], (strings cs others, append-nil (form_parts (strings cs others))))

-- and with it the text
pub spells-on : (w : Forms) (os : List Standing) (r : Read) (more : List Part) (f : Form) → read_parts r ++ more ≡ form_parts f → spells (state w os r) ++ (more ++ closers os) ≡ text_parts (closed_up os w f)
spells-on w os r more f is =
    three (text_parts w) (open_parts os) (read_parts r) (more ++ closers os) ∙ (ap (λ x. text_parts w ++ (open_parts os ++ x)) (sym (append_assoc (read_parts r) more (closers os)) ∙ ap (λ x. x ++ closers os) is) ∙ complete os w f)

spells-start : (s : State) → IsStart (spells s)
spells-start (state w os r) =
    let rest = complete_read r in
    record { others = rest.0 ++ closers os; forms = closed_up os w rest.1.0; written = spells-on w os r rest.0 rest.1.0 rest.1.1 }

-- what is taken is a start
pub start-from_run : (ps : List Part) (s : State) → run beginning ps ≡ Some s → IsStart ps
start-from_run ps s e = subst IsStart (spell-run ps beginning s e) (spells-start s)

append-on : (xs ys : List Part) (next : Option State) → ((t : State) → run t (xs ++ ys) ≡ option_and_then (λ u. run u ys) (run t xs)) → option_and_then (λ t. run t (xs ++ ys)) next ≡ option_and_then (λ u. run u ys) (option_and_then (λ t. run t xs) next)
append-on xs ys None later = refl
append-on xs ys (Some t) later = later t

pub run-append : (xs ys : List Part) (s : State) → run s (xs ++ ys) ≡ option_and_then (λ t. run t ys) (run s xs)
run-append [] ys s = refl
run-append (x ∷ xs) ys s = append-on xs ys (step s x) (λ t. run-append xs ys t)

-- a start is taken
pub run-from_start : (ps : List Part) → IsStart ps → (s : State) × (run beginning ps ≡ Some s)
run-from_start ps is = on (run beginning ps) refl
  where
    whole : run beginning (text_parts is.forms) ≡ Some (state is.forms [] no_form)
    whole = ap (run beginning) (sym (append-nil (text_parts is.forms))) ∙ run-text is.forms []

    on : (r : Option State) → run beginning ps ≡ r → (s : State) × (run beginning ps ≡ Some s)
    on (Some s) e = (s, e)
    on None e =
        absurd (none-some (state is.forms [] no_form) (ap (λ r. option_and_then (λ t. run t is.others) r) (sym e) ∙ (sym (run-append ps is.others beginning) ∙ (ap (run beginning) is.written ∙ whole))))
