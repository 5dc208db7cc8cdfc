-- Lemmas on how far serving has come: a line more, a piece of one, answers written, and the end.
use Rattle.line_server.specs.declared.ended.Fault.TheVariants.{Memory}
use Rattle.std.proofs.Common.{All, None, Some, ◌≡◌, ℕ, ◌+◌, ◌<◌, Bool, true, false, List, [], ◌∷◌, ◌++◌, length, take, Option, Result, Ok, Err, OnOk, IfErr, IsErrAnd, refl, sym, ap, subst, ◌∙◌, append_assoc, append-nil, arith, length-take}
use Rattle.std.proofs.lemmas.List.{take_all, nil_from_length}
use Rattle.std.proofs.lemmas.List.Elements.{All-push, All-pop}
use Rattle.std.specs.Io.KnownBytes.{Appends}
use Rattle.std.proofs.KnownBytes.{Appends-nil, Appends-trans}
use Rattle.line_server.specs.declared.ended.Fault.{Fault}
use Rattle.line_server.specs.declared.waiting.Waiting.{Waiting}
use Rattle.line_server.specs.declared.pending.Pending.{Pending}
use Rattle.line_server.specs.Lines.{whole_lines, rest_of, last_line, lines_of, heard, longest_line, has_newline}
use Rattle.line_server.specs.Session.{Exchanges, Answered, AreInTurn, lines_in, text_of, session_after}
use Rattle.line_server.specs.Progress.{Hears, Stays, SoFar, IsAnswered, IsFrontAnswered, Moves, TakesFront, IsOfWriting, GoesOn, StopsIn, Finishes}
use Rattle.line_server.proofs.Cuts.{whole_lines-append, whole_lines-piece, rest_of-piece, whole_lines-ended, rest_of-ended}
use Rattle.line_server.proofs.Telling.{AreInTurn-push, session_after-push, lines_in-push, text_of-push, heard-take, take-append}

nil_from_take : (n : ℕ) (line : List ℕ) → take (n + 1) line ≡ [] → line ≡ []
nil_from_take n line none =
    let count = length-take (n + 1) line in
    let zero = ap length none in
    nil_from_length line (omega (arith, count, zero))

last_line-some : (rest : List ℕ) → 0 < length rest → last_line rest ≡ rest ∷ []
last_line-some [] some = absurd (omega arith)
last_line-some (b ∷ bs) some = refl

module _ {S F : Type 0} (exchange : Exchanges S F) (start : S) where
  -- one line more is answered, and there was a fate or none
  pushed : (answered : List (Answered S F)) (lines : List (List ℕ)) (line kept : List ℕ) (old new : S) (output : List ℕ) (before after : Waiting) → AreInTurn exchange start answered → lines_in answered ≡ lines → text_of answered ≡ output ++ before.text.items → old ≡ session_after start answered → (before.is_refused ≡ false → All (λ a. a.fate ≡ None) answered) → (All (λ a. a.fate ≡ None) answered → before.is_refused ≡ false) → heard kept ≡ heard line → Hears exchange kept old new before after → IsAnswered exchange start (lines ++ line ∷ []) output new after
  pushed answered lines line kept old new output before after in_turn is text stands unrefused refused same hears =
      let t = hears.is_exchange.0 in
      let a : Answered S F = record { line = line; fate = hears.fate; exchange = t } in
      let may = subst (λ h. exchange hears.fate old h t) same hears.is_exchange.1 in
      record {
        answered = answered ++ a ∷ [];
        in_turn = AreInTurn-push exchange start answered a in_turn (subst (λ s. exchange hears.fate s (heard line) t) stands may);
        all = lines_in-push answered a ∙ ap (λ ls. ls ++ line ∷ []) is;
        text = text_of-push answered a ∙ ap (λ l. l ++ t.text) text ∙ append_assoc output before.text.items t.text ∙ ap (λ l. output ++ l) (sym hears.is_exchange.3);
        stands = hears.is_exchange.2 ∙ sym (session_after-push start answered a);
        unrefused = λ r. let was = hears.unrefused r in All-push (λ b. b.fate ≡ None) answered a (unrefused was.0) was.1;
        refused = λ all. let each = All-pop (λ b. b.fate ≡ None) (answered ++ a ∷ []) answered (Some a) refl all in hears.refused each.1 ∙ refused each.0;
      }

  -- the line that these bytes end is answered
  pub SoFar-ended : (had output end kept : List ℕ) (old new : S) (before after : Pending) → has_newline end ≡ false → heard kept ≡ heard (rest_of had ++ end) → Hears exchange kept old new before.answers after.answers → after.line.bytes.items ≡ [] → SoFar exchange start had output old before → SoFar exchange start (had ++ (end ++ 10 ∷ [])) output new after
  SoFar-ended had output end kept old new before after none same hears empty so =
      let all = pushed so.answered (whole_lines had) (rest_of had ++ end) kept old new output before.answers after.answers so.in_turn so.lines so.text so.stands so.unrefused so.refused same hears in
      record {
        answered = all.answered;
        in_turn = all.in_turn;
        lines = all.all ∙ sym (whole_lines-ended had end none);
        text = all.text;
        stands = all.stands;
        line = empty ∙ sym (take_all (longest_line + 1) [] (omega arith)) ∙ ap (take (longest_line + 1)) (sym (rest_of-ended had end));
        unrefused = all.unrefused;
        refused = all.refused;
      }

  -- a line goes on
  pub SoFar-piece : (had output piece : List ℕ) (now : S) (before after : Pending) → has_newline piece ≡ false → after.answers.text.items ≡ before.answers.text.items → after.answers.is_refused ≡ before.answers.is_refused → after.line.bytes.items ≡ take (longest_line + 1) (before.line.bytes.items ++ piece) → SoFar exchange start had output now before → SoFar exchange start (had ++ piece) output now after
  SoFar-piece had output piece now before after none text refused kept so =
      record {
        answered = so.answered;
        in_turn = so.in_turn;
        lines = so.lines ∙ sym (whole_lines-piece had piece none);
        text = so.text ∙ ap (λ l. output ++ l) (sym text);
        stands = so.stands;
        line = kept ∙ ap (λ l. take (longest_line + 1) (l ++ piece)) so.line ∙ take-append (longest_line + 1) (rest_of had) piece ∙ ap (take (longest_line + 1)) (sym (rest_of-piece had piece none));
        unrefused = λ r. so.unrefused (sym refused ∙ r);
        refused = λ all. refused ∙ so.refused all;
      }

  -- a front of the answers is written
  pub SoFar-moved : (had output taken : List ℕ) (now : S) (before after : Pending) → before.answers.text.items ≡ taken ++ after.answers.text.items → after.answers.is_refused ≡ before.answers.is_refused → after.line.bytes.items ≡ before.line.bytes.items → SoFar exchange start had output now before → SoFar exchange start had (output ++ taken) now after
  SoFar-moved had output taken now before after parts refused same so =
      record {
        answered = so.answered;
        in_turn = so.in_turn;
        lines = so.lines;
        text = so.text ∙ ap (λ l. output ++ l) parts ∙ sym (append_assoc output taken after.answers.text.items);
        stands = so.stands;
        line = same ∙ so.line;
        unrefused = λ r. so.unrefused (sym refused ∙ r);
        refused = λ all. refused ∙ so.refused all;
      }

  -- no rest is left behind the last newline
  pub IsAnswered-no_rest : (had output : List ℕ) (now : S) (pending : Pending) → pending.line.bytes.items ≡ [] → SoFar exchange start had output now pending → IsAnswered exchange start (lines_of had) output now pending.answers
  IsAnswered-no_rest had output now pending empty so =
      let none = nil_from_take longest_line (rest_of had) (sym so.line ∙ empty) in
      let lines : lines_of had ≡ whole_lines had = ap (λ (rest : List ℕ). whole_lines had ++ last_line rest) none ∙ append-nil (whole_lines had) in
      record {
        answered = so.answered;
        in_turn = so.in_turn;
        all = so.lines ∙ sym lines;
        text = so.text;
        stands = so.stands;
        unrefused = so.unrefused;
        refused = so.refused;
      }

  -- the rest is answered
  pub IsAnswered-rest : (had output kept : List ℕ) (old new : S) (before : Pending) (after : Waiting) → kept ≡ before.line.bytes.items → 0 < length kept → Hears exchange kept old new before.answers after → SoFar exchange start had output old before → IsAnswered exchange start (lines_of had) output new after
  IsAnswered-rest had output kept old new before after is some hears so =
      let rest = rest_of had in
      let held = length-take (longest_line + 1) rest in
      let count = ap length (is ∙ so.line) in
      let lines : lines_of had ≡ whole_lines had ++ rest ∷ [] = ap (λ l. whole_lines had ++ l) (last_line-some rest (omega (arith, held, count))) in
      let same = ap heard (is ∙ so.line) ∙ heard-take rest in
      subst (λ ls. IsAnswered exchange start ls output new after) (sym lines) (pushed so.answered (whole_lines had) rest kept old new output before.answers after so.in_turn so.lines so.text so.stands so.unrefused so.refused same hears)

  pub IsAnswered-written : (lines : List (List ℕ)) (output : List ℕ) (now : S) (before after : Waiting) → after.text.items ≡ [] → after.is_refused ≡ before.is_refused → IsAnswered exchange start lines output now before → IsAnswered exchange start lines (output ++ before.text.items) now after
  IsAnswered-written lines output now before after none refused so =
      record {
        answered = so.answered;
        in_turn = so.in_turn;
        all = so.all;
        text = so.text ∙ sym (append-nil (output ++ before.text.items)) ∙ ap (λ l. (output ++ before.text.items) ++ l) (sym none);
        stands = so.stands;
        unrefused = λ r. so.unrefused (sym refused ∙ r);
        refused = λ all. refused ∙ so.refused all;
      }

  -- a front of the answers is written
  pub IsFrontAnswered-answered : (lines : List (List ℕ)) (output taken left : List ℕ) (now : S) (answers : Waiting) (refused : Bool) → answers.text.items ≡ taken ++ left → refused ≡ answers.is_refused → IsAnswered exchange start lines output now answers → IsFrontAnswered exchange start lines (output ++ taken) refused
  IsFrontAnswered-answered lines output taken left now answers refused parts same so =
      record {
        answered = so.answered;
        in_turn = so.in_turn;
        front = ([], sym so.all ∙ sym (append-nil (lines_in so.answered)));
        text = (left, so.text ∙ ap (λ l. output ++ l) parts ∙ sym (append_assoc output taken left));
        unrefused = λ r. so.unrefused (sym same ∙ r);
        refused = λ all. same ∙ so.refused all;
      }

  -- also where more bytes were read than answered
  pub IsFrontAnswered-so_far : (had more output taken left : List ℕ) (now : S) (pending : Pending) (refused : Bool) → pending.answers.text.items ≡ taken ++ left → refused ≡ pending.answers.is_refused → SoFar exchange start had output now pending → IsFrontAnswered exchange start (lines_of (had ++ more)) (output ++ taken) refused
  IsFrontAnswered-so_far had more output taken left now pending refused parts same so =
      let first = whole_lines had in
      let last = last_line (rest_of (had ++ more)) in
      let others = whole_lines (rest_of had ++ more) ++ last in
      let lines : lines_of (had ++ more) ≡ first ++ others = ap (λ l. l ++ last) (whole_lines-append had more) ∙ append_assoc first (whole_lines (rest_of had ++ more)) last in
      record {
        answered = so.answered;
        in_turn = so.in_turn;
        front = (others, lines ∙ ap (λ ls. ls ++ others) (sym so.lines));
        text = (left, so.text ∙ ap (λ l. output ++ l) parts ∙ sym (append_assoc output taken left));
        unrefused = λ r. so.unrefused (sym same ∙ r);
        refused = λ all. same ∙ so.refused all;
      }

-- What a function does from any start

module _ {S F : Type 0} (exchange : Exchanges S F) where
  pub GoesOn-none : (now : S) (held : Option (List ℕ)) (pending : Pending) → GoesOn exchange [] now now held held pending pending
  GoesOn-none now held pending = record {
    taken = [];
    appended = Appends-nil held;
    goes = λ start had output so. rw (append-nil had, append-nil output) so;
  }

  pub GoesOn-piece : (bytes piece : List ℕ) (first old new : S) (held holds : Option (List ℕ)) (begun before after : Pending) → GoesOn exchange bytes first old held holds begun before → ((start : S) (had output : List ℕ) → SoFar exchange start had output old before → SoFar exchange start (had ++ piece) output new after) → GoesOn exchange (bytes ++ piece) first new held holds begun after
  GoesOn-piece bytes piece first old new held holds begun before after on step = record {
    taken = on.taken;
    appended = on.appended;
    goes = λ start had output so. subst (λ l. SoFar exchange start l (output ++ on.taken) new after) (append_assoc had bytes piece) (step start (had ++ bytes) (output ++ on.taken) (on.goes start had output so));
  }

  pub GoesOn-moved : (bytes : List ℕ) (first now : S) (held holds holding : Option (List ℕ)) (begun before after : Pending) → GoesOn exchange bytes first now held holds begun before → Moves holds holding before.answers.text.items after.answers.text.items → after.answers.is_refused ≡ before.answers.is_refused → after.line.bytes.items ≡ before.line.bytes.items → GoesOn exchange bytes first now held holding begun after
  GoesOn-moved bytes first now held holds holding begun before after on moved refused same = record {
    taken = on.taken ++ moved.taken;
    appended = Appends-trans held holds holding on.taken moved.taken on.appended moved.appended;
    goes = λ start had output so. subst (λ l. SoFar exchange start (had ++ bytes) l now after) (append_assoc output on.taken moved.taken) (SoFar-moved exchange start (had ++ bytes) (output ++ on.taken) moved.taken now before after moved.parts refused same (on.goes start had output so));
  }

  pub GoesOn-written : (bytes : List ℕ) (first now : S) (held holds holding : Option (List ℕ)) (begun before after : Pending) → GoesOn exchange bytes first now held holds begun before → Appends holds holding before.answers.text.items → after.answers.text.items ≡ [] → after.answers.is_refused ≡ before.answers.is_refused → after.line.bytes.items ≡ before.line.bytes.items → GoesOn exchange bytes first now held holding begun after
  GoesOn-written bytes first now held holds holding begun before after on written none refused same =
      let text = before.answers.text.items in
      GoesOn-moved bytes first now held holds holding begun before after on record { taken = text; parts = sym (append-nil text) ∙ ap (λ l. text ++ l) (sym none); appended = written } refused same

  -- where answers can't be written, or are for lack of memory none
  pub StopsIn-part : (chunk bytes rest : List ℕ) (first now : S) (held holds holding : Option (List ℕ)) (begun before after : Pending) (fault : Fault) → chunk ≡ bytes ++ rest → GoesOn exchange bytes first now held holds begun before → TakesFront holds holding before.answers.text.items → after.answers.is_refused ≡ before.answers.is_refused → IsOfWriting fault → StopsIn exchange chunk first held holding begun after fault
  StopsIn-part chunk bytes rest first now held holds holding begun before after fault is on front refused writing = record {
    of_writing = writing;
    taken = on.taken ++ front.taken;
    appended = Appends-trans held holds holding on.taken front.taken on.appended front.appended;
    part = λ start had output so.
        let stopped = IsFrontAnswered-so_far exchange start (had ++ bytes) rest (output ++ on.taken) front.taken front.left now before after.answers.is_refused front.parts refused (on.goes start had output so) in
        rw (is, ← append_assoc had bytes rest, ← append_assoc output on.taken front.taken) stopped;
  }

  pub StopsIn-end : (old now : S) (held holds : Option (List ℕ)) (begun after : Pending) (answers : Waiting) (fault : Fault) → ((start : S) (had output : List ℕ) → SoFar exchange start had output old begun → IsAnswered exchange start (lines_of had) output now answers) → TakesFront held holds answers.text.items → after.answers.is_refused ≡ answers.is_refused → IsOfWriting fault → StopsIn exchange [] old held holds begun after fault
  StopsIn-end old now held holds begun after answers fault ends front refused writing = record {
    of_writing = writing;
    taken = front.taken;
    appended = front.appended;
    part = λ start had output so. rw (append-nil had) (IsFrontAnswered-answered exchange start (lines_of had) output front.taken front.left now answers after.answers.is_refused front.parts refused (ends start had output so));
  }

  pub Finishes-written : (old now : S) (held holds : Option (List ℕ)) (begun after : Pending) (answers : Waiting) → ((start : S) (had output : List ℕ) → SoFar exchange start had output old begun → IsAnswered exchange start (lines_of had) output now answers) → Appends held holds answers.text.items → after.answers.text.items ≡ [] → after.answers.is_refused ≡ answers.is_refused → Finishes exchange old now held holds begun after
  Finishes-written old now held holds begun after answers ends written none refused = record {
    taken = answers.text.items;
    appended = written;
    goes = λ start had output so. IsAnswered-written exchange start (lines_of had) output now answers after.answers none refused (ends start had output so);
  }

-- From the clauses of calls

pub OnOk-then : {T E : Type 0} (r : Result T E) (P Q : Type 0) → OnOk r P → (P → Q) → OnOk r Q
OnOk-then (Ok x) P Q p step = step p
OnOk-then (Err e) P Q p step = tt

pub some_from_test : (is_empty : Bool) (line : List ℕ) → (line ≡ [] → is_empty ≡ true) → is_empty ≡ false → 0 < length line
some_from_test is_empty [] test other = absurd (let same = sym (test refl) ∙ other in let never : ⊥ = cc in never)
some_from_test is_empty (b ∷ bs) test other = omega arith

module _ {S F : Type 0} (exchange : Exchanges S F) (start : S) where
  -- the line begins with these bytes
  pub SoFar-ended_here : (had output end : List ℕ) (old new : S) (before after : Pending) → has_newline end ≡ false → before.line.bytes.items ≡ [] → Hears exchange end old new before.answers after.answers → after.line.bytes.items ≡ [] → SoFar exchange start had output old before → SoFar exchange start (had ++ (end ++ 10 ∷ [])) output new after
  SoFar-ended_here had output end old new before after none begun hears empty so =
      let no_rest = nil_from_take longest_line (rest_of had) (sym so.line ∙ begun) in
      SoFar-ended exchange start had output end end old new before after none (ap (λ (rest : List ℕ). heard (rest ++ end)) (sym no_rest)) hears empty so

  -- the line began before them
  pub SoFar-ended_there : (had output end kept : List ℕ) (old new : S) (before after : Pending) → has_newline end ≡ false → kept ≡ take (longest_line + 1) (before.line.bytes.items ++ end) → Hears exchange kept old new before.answers after.answers → after.line.bytes.items ≡ [] → SoFar exchange start had output old before → SoFar exchange start (had ++ (end ++ 10 ∷ [])) output new after
  SoFar-ended_there had output end kept old new before after none is hears empty so =
      let whole = is ∙ ap (λ l. take (longest_line + 1) (l ++ end)) so.line ∙ take-append (longest_line + 1) (rest_of had) end in
      SoFar-ended exchange start had output end kept old new before after none (ap heard whole ∙ heard-take (rest_of had ++ end)) hears empty so

-- From the clauses of more calls

pub OnOk-both : {T E : Type 0} (r : Result T E) (P Q R : Type 0) → OnOk r P → OnOk r Q → (P → Q → R) → OnOk r R
OnOk-both (Ok x) P Q R p q step = step p q
OnOk-both (Err e) P Q R p q step = tt

pub IfErr-then : {T E : Type 0} (r : Result T E) (P Q : E → Type 0) → IfErr r P → ((e : E) → P e → Q e) → IfErr r Q
IfErr-then (Ok x) P Q p step = tt
IfErr-then (Err e) P Q p step = step e p

module _ {S F : Type 0} (exchange : Exchanges S F) where
  pub StopsIn-refused : (chunk bytes rest : List ℕ) (first now : S) (held holds holding : Option (List ℕ)) (begun before after : Pending) (failed : Waiting) (fault : Fault) → chunk ≡ bytes ++ rest → GoesOn exchange bytes first now held holds begun before → Stays before.answers failed → TakesFront holds holding failed.text.items → after.answers.is_refused ≡ failed.is_refused → fault ≡ Memory → StopsIn exchange chunk first held holding begun after fault
  StopsIn-refused chunk bytes rest first now held holds holding begun before after failed fault is on stays front refused memory =
      StopsIn-part exchange chunk bytes rest first now held holds holding begun before after fault is on (subst (λ text. TakesFront holds holding text) stays.text front) (refused ∙ stays.refused) (subst IsOfWriting (sym memory) tt)

-- the error that a `?` passes on
pub IfErr-passed : {T E : Type 0} (r : Result T E) (x : E) (Q : E → Type 0) → IsErrAnd r (λ e. e ≡ x) → Q x → IfErr r Q
IfErr-passed (Ok y) x Q is q = tt
IfErr-passed (Err e) x Q is q = subst Q (sym is) q
