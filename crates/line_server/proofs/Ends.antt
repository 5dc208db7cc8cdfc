-- Lemmas on serving a reader's chunks one after the other, and on how it ends.
use Rattle.std.proofs.Common.{◌≡◌, ℕ, ◌+◌, false, List, [], ◌++◌, Option, None, Some, Result, Ok, Err, OnOk, IfErr, IsErrAnd, refl, sym, ap, subst, ◌∙◌, append-nil, arith}
use Rattle.std.proofs.lemmas.List.{take_all}
use Rattle.std.proofs.lemmas.List.Elements.{All-nil}
use Rattle.std.specs.Result.{result_err}
use Rattle.std.specs.Io.KnownBytes.{Keeps, Appends, Consumes, IsAtEnd}
use Rattle.std.proofs.KnownBytes.{Appends-nil, Appends-trans, Consumes-nil, Consumes-trans, Consumes-kept}
use Rattle.line_server.specs.declared.ended.Fault.{Fault}
use Rattle.line_server.specs.declared.ended.Fault.TheVariants.{Read, Endless, Write, WriteZero, Memory}
use Rattle.line_server.specs.declared.ended.ServeEnd.{ServeEnd}
use Rattle.line_server.specs.declared.pending.Pending.{Pending}
use Rattle.line_server.specs.Lines.{lines_of, longest_line}
use Rattle.line_server.specs.Session.{Exchanges, lines_in, text_of, session_after}
use Rattle.line_server.specs.Serving.{IsFrontOf, AreAnswered, IsWritten, Stands, Serves, ServesWhole, most_reads}
use Rattle.line_server.specs.Progress.{SoFar, IsOfWriting, GoesOn, StopsIn, Finishes, fault_of}

-- Some chunks are served: the reader gave bytes, the text of their whole lines is written, and no answer waits.
pub record Served {S F : Type 0} (exchange : Exchanges S F) (start now : S) (left rest held holds : Option (List ℕ)) (pending : Pending) : Type 0 where
  pub bytes : List ℕ
  pub output : List ℕ
  pub consumed : Consumes left rest bytes
  pub written : Appends held holds output
  pub so_far : SoFar exchange start bytes output now pending
  pub none_left : pending.answers.text.items ≡ []

-- after a fault of writing

AreAnswered-part : (fault : Fault) (bytes : List ℕ) (lines : List (List ℕ)) → IsOfWriting fault → IsFrontOf lines (lines_of bytes) → AreAnswered (Some fault) bytes lines
AreAnswered-part (Read e) bytes lines writing part = absurd writing
AreAnswered-part (Endless reads) bytes lines writing part = absurd writing
AreAnswered-part (Write e) bytes lines writing part = part
AreAnswered-part WriteZero bytes lines writing part = part
AreAnswered-part Memory bytes lines writing part = part

IsWritten-part : (fault : Fault) (text output : List ℕ) → IsOfWriting fault → IsFrontOf output text → IsWritten (Some fault) text output
IsWritten-part (Read e) text output writing part = absurd writing
IsWritten-part (Endless reads) text output writing part = absurd writing
IsWritten-part (Write e) text output writing part = part
IsWritten-part WriteZero text output writing part = part
IsWritten-part Memory text output writing part = part

Stands-part : {S : Type 0} (fault : Fault) (new behind : S) → IsOfWriting fault → Stands (Some fault) new behind
Stands-part (Read e) new behind writing = absurd writing
Stands-part (Endless reads) new behind writing = absurd writing
Stands-part (Write e) new behind writing = tt
Stands-part WriteZero new behind writing = tt
Stands-part Memory new behind writing = tt

no_fault : (fault : Fault) (P : Type 0) → Some fault ≡ None → P
no_fault fault P is = absurd (let never : ⊥ = cc in never)

not_endless : (fault : Fault) (reads : ℕ) (P : Type 0) → IsOfWriting fault → Some fault ≡ Some (Endless reads) → P
not_endless fault reads P writing is = let same : fault ≡ Endless reads = cc in absurd (subst IsOfWriting same writing)

module _ {S F : Type 0} (exchange : Exchanges S F) (start : S) where
  -- before the first read
  pub Served-none : (left held : Option (List ℕ)) (pending : Pending) → pending.line.bytes.items ≡ [] → pending.answers.text.items ≡ [] → pending.answers.is_refused ≡ false → Served exchange start start left left held held pending
  Served-none left held pending line text unrefused = record {
    bytes = [];
    output = [];
    consumed = Consumes-nil left;
    written = Appends-nil held;
    so_far = record {
      answered = [];
      in_turn = tt;
      lines = refl;
      text = sym text;
      stands = refl;
      line = line ∙ sym (take_all (longest_line + 1) [] (omega arith));
      unrefused = λ r. All-nil (λ a. a.fate ≡ None);
      refused = λ all. unrefused;
    };
    none_left = text;
  }

  -- a chunk more
  pub Served-chunk : (chunk : List ℕ) (old new : S) (left rest resting held holds holding : Option (List ℕ)) (before after : Pending) → Served exchange start old left rest held holds before → Consumes rest resting chunk → GoesOn exchange chunk old new holds holding before after → after.answers.text.items ≡ [] → Served exchange start new left resting held holding after
  Served-chunk chunk old new left rest resting held holds holding before after served read on none = record {
    bytes = served.bytes ++ chunk;
    output = served.output ++ on.taken;
    consumed = Consumes-trans left rest resting served.bytes chunk served.consumed read;
    written = Appends-trans held holds holding served.output on.taken served.written on.appended;
    so_far = on.goes start served.bytes served.output served.so_far;
    none_left = none;
  }

  -- a read that was interrupted
  pub Served-kept : (now : S) (left rest resting held holds : Option (List ℕ)) (pending : Pending) → Served exchange start now left rest held holds pending → Keeps rest resting → Served exchange start now left resting held holds pending
  Served-kept now left rest resting held holds pending served kept = record {
    bytes = served.bytes;
    output = served.output;
    consumed = Consumes-kept left rest resting served.bytes served.consumed kept;
    written = served.written;
    so_far = served.so_far;
    none_left = served.none_left;
  }

  -- the text of the whole lines is written
  whole_text : (now : S) (left rest held holds : Option (List ℕ)) (pending : Pending) (served : Served exchange start now left rest held holds pending) → served.output ≡ text_of served.so_far.answered
  whole_text now left rest held holds pending served =
      sym (served.so_far.text ∙ ap (λ l. served.output ++ l) served.none_left ∙ append-nil served.output)

  -- the reader failed, or has no end
  pub Serves-read : (e : _) (now : S) (left rest resting held holds : Option (List ℕ)) (pending : Pending) → Served exchange start now left rest held holds pending → Keeps rest resting → Serves exchange start now left resting held holds record { fault = Some (Read e); is_refused = pending.answers.is_refused }
  Serves-read e now left rest resting held holds pending served kept = record {
    bytes = served.bytes;
    answered = served.so_far.answered;
    output = served.output;
    consumed = Consumes-kept left rest resting served.bytes served.consumed kept;
    written = served.written;
    in_turn = served.so_far.in_turn;
    lines = served.so_far.lines;
    text = whole_text now left rest held holds pending served;
    stands = served.so_far.stands;
    at_end = no_fault (Read e) (IsAtEnd resting);
    endless = λ n is. absurd (let never : ⊥ = cc in never);
    unrefused = served.so_far.unrefused;
    refused = served.so_far.refused;
  }

  pub Serves-endless : (reads : ℕ) (now : S) (left rest held holds : Option (List ℕ)) (pending : Pending) → reads ≡ most_reads → Served exchange start now left rest held holds pending → Serves exchange start now left rest held holds record { fault = Some (Endless reads); is_refused = pending.answers.is_refused }
  Serves-endless reads now left rest held holds pending all served = record {
    bytes = served.bytes;
    answered = served.so_far.answered;
    output = served.output;
    consumed = served.consumed;
    written = served.written;
    in_turn = served.so_far.in_turn;
    lines = served.so_far.lines;
    text = whole_text now left rest held holds pending served;
    stands = served.so_far.stands;
    at_end = no_fault (Endless reads) (IsAtEnd rest);
    endless = λ n is. let same : n ≡ reads = cc in same ∙ all;
    unrefused = served.so_far.unrefused;
    refused = served.so_far.refused;
  }

  -- the writer failed, or memory is wanted
  pub Serves-stopped : (chunk : List ℕ) (old new : S) (left rest resting held holds holding : Option (List ℕ)) (before after : Pending) (fault : Fault) → Served exchange start old left rest held holds before → Consumes rest resting chunk → StopsIn exchange chunk old holds holding before after fault → Serves exchange start new left resting held holding record { fault = Some fault; is_refused = after.answers.is_refused }
  Serves-stopped chunk old new left rest resting held holds holding before after fault served read stops =
      let bytes = served.bytes ++ chunk in
      let part = stops.part start served.bytes served.output served.so_far in
      record {
        bytes = bytes;
        answered = part.answered;
        output = served.output ++ stops.taken;
        consumed = Consumes-trans left rest resting served.bytes chunk served.consumed read;
        written = Appends-trans held holds holding served.output stops.taken served.written stops.appended;
        in_turn = part.in_turn;
        lines = AreAnswered-part fault bytes (lines_in part.answered) stops.of_writing part.front;
        text = IsWritten-part fault (text_of part.answered) (served.output ++ stops.taken) stops.of_writing part.text;
        stands = Stands-part fault new (session_after start part.answered) stops.of_writing;
        at_end = no_fault fault (IsAtEnd resting);
        endless = λ n. not_endless fault n (n ≡ most_reads) stops.of_writing;
        unrefused = part.unrefused;
        refused = part.refused;
      }

  -- the reader is at its end
  Serves-finished : (old new : S) (left rest resting held holds holding : Option (List ℕ)) (before after : Pending) → Served exchange start old left rest held holds before → Consumes rest resting [] → IsAtEnd resting → Finishes exchange old new holds holding before after → after.answers.text.items ≡ [] → Serves exchange start new left resting held holding record { fault = None; is_refused = after.answers.is_refused }
  Serves-finished old new left rest resting held holds holding before after served read end finishes none =
      let output = served.output ++ finishes.taken in
      let all = finishes.goes start served.bytes served.output served.so_far in
      record {
        bytes = served.bytes;
        answered = all.answered;
        output = output;
        consumed = subst (Consumes left resting) (append-nil served.bytes) (Consumes-trans left rest resting served.bytes [] served.consumed read);
        written = Appends-trans held holds holding served.output finishes.taken served.written finishes.appended;
        in_turn = all.in_turn;
        lines = all.all;
        text = sym (all.text ∙ ap (λ l. output ++ l) none ∙ append-nil output);
        stands = all.stands;
        at_end = λ is. end;
        endless = λ n is. absurd (let never : ⊥ = cc in never);
        unrefused = all.unrefused;
        refused = all.refused;
      }

  pub Serves-end : (result : Result (Unit {0}) Fault) (old new : S) (left rest resting held holds holding : Option (List ℕ)) (before after : Pending) → Served exchange start old left rest held holds before → Consumes rest resting [] → IsAtEnd resting → OnOk result (Finishes exchange old new holds holding before after) → OnOk result (after.answers.text.items ≡ []) → IfErr result (StopsIn exchange [] old holds holding before after) → Serves exchange start new left resting held holding record { fault = fault_of result; is_refused = after.answers.is_refused }
  Serves-end (Ok u) old new left rest resting held holds holding before after served read end finishes none stops =
      Serves-finished old new left rest resting held holds holding before after served read end finishes none
  Serves-end (Err fault) old new left rest resting held holds holding before after served read end finishes none stops =
      Serves-stopped [] old new left rest resting held holds holding before after fault served read stops

  -- without a fault and lack of memory, the text of all lines is written behind what the writer held
  pub whole-from_Serves : (new : S) (left rest held holds : Option (List ℕ)) (ended : ServeEnd) (input before : List ℕ) → Serves exchange start new left rest held holds ended → left ≡ Some input → held ≡ Some before → ended.fault ≡ None → ended.is_refused ≡ false → ServesWhole exchange start new input before holds
  whole-from_Serves new left rest held holds ended input before serves gave had none unrefused =
      let all = all_read rest (subst (λ o. Consumes o rest serves.bytes) gave serves.consumed) (serves.at_end none) in
      let text = subst (λ fault. IsWritten fault (text_of serves.answered) serves.output) none serves.text in
      record {
        answered = serves.answered;
        in_turn = serves.in_turn;
        unrefused = serves.unrefused unrefused;
        lines = subst (λ fault. AreAnswered fault serves.bytes (lines_in serves.answered)) none serves.lines ∙ ap lines_of (sym all);
        stands = subst (λ fault. Stands fault new (session_after start serves.answered)) none serves.stands;
        written = all_written holds (subst (λ o. Appends o holds serves.output) had serves.written) ∙ ap (λ l. Some (before ++ l)) text;
      }
    where
      all_read : (end : Option (List ℕ)) → Consumes (Some input) end serves.bytes → IsAtEnd end → input ≡ serves.bytes
      all_read None read end = absurd read
      all_read (Some ys) read end = read ∙ ap (λ l. serves.bytes ++ l) end ∙ append-nil serves.bytes

      all_written : (after : Option (List ℕ)) → Appends (Some before) after serves.output → after ≡ Some (before ++ serves.output)
      all_written None written = absurd written
      all_written (Some ys) written = ap (λ l. Some l) written

-- the fault that a `?` passes on
pub fault_of-passed : (r : Result (Unit {0}) Fault) (fault : Fault) → IsErrAnd r (λ e. e ≡ fault) → fault_of r ≡ Some fault
fault_of-passed (Ok u) fault is = absurd is
fault_of-passed (Err e) fault is = ap (λ f. Some f) is

pub fault_of-err : (r : Result (Unit {0}) Fault) → fault_of r ≡ result_err r
fault_of-err (Ok u) = refl
fault_of-err (Err e) = refl

-- nothing is read where there is no memory to begin with
pub Serves-memory : {S F : Type 0} (exchange : Exchanges S F) (start : S) (left held : Option (List ℕ)) → Serves exchange start start left left held held record { fault = Some Memory; is_refused = false }
Serves-memory exchange start left held = record {
  bytes = [];
  answered = [];
  output = [];
  consumed = Consumes-nil left;
  written = Appends-nil held;
  in_turn = tt;
  lines = ([], refl);
  text = ([], refl);
  stands = tt;
  at_end = no_fault Memory (IsAtEnd left);
  endless = λ n. not_endless Memory n (n ≡ most_reads) tt;
  unrefused = λ r. All-nil (λ a. a.fate ≡ None);
  refused = λ all. refl;
}
