-- The bytes of each line, as its pieces are written.
use Rattle.std.proofs.Common.{◌≡◌, ◌<◌, ℕ, pos, List, length, get_or, arith, Vec, String, Global, IsUtf8, encode_utf8, [], ◌∷◌, ◌++◌, codes, true, Option, None, Some, append-nil, append_assoc, refl, sym, ap, ◌∙◌}
use lib.Utf8.{encode}
use Rattle.std.proofs.lemmas.List.{get_or-map, length-map}
use Rattle.std.proofs.lemmas.Str.{chars-append, chars-encodes}
use Rattle.erl_term.specs.Tree.{Tree, Trees, int, atom, pid, tuple, list, none, more}
use Rattle.std.specs.Str.{chars}
use Rattle.erl_scan.specs.declared.error.Fault.{Fault}
use Rattle.erl_scan.specs.declared.error.Fault.TheVariants as kinds
use Rattle.erl_term.specs.Rows.{integers}
use Rattle.erl_term.specs.Term.{tree, trees}
use Rattle.process.specs.Process.{ProcessState}
use Rattle.process_effects.specs.declared.told.Reply.{Reply}
use Rattle.process_effects.specs.declared.told.ReplyBody.{ReplyBody}
use Rattle.process_effects.specs.declared.told.ReplyBody.TheVariants as bodies
use Rattle.undo_journal.specs.declared.report.Report.{Report}
use Rattle.node_types.specs.Note.{Note}
use Rattle.code_server.specs.Modules.{Entry}
use Rattle.erl_ir.specs.Module.{Forms}
use Rattle.app_table.specs.Applications.{Application}
use Rattle.release_files.specs.declared.fault.FileFault.{FileFault}
use Rattle.release_statuses.specs.declared.listed.Listed.{Listed}
use Rattle.release_statuses.specs.declared.status.Status.{Status}
use Rattle.erl_term.specs.Conversions.{rows}
use Rattle.release_words.specs.Words.{names_tree, string_tree}
use Rattle.shell_answers.specs.Refusals.{bad_script, bad_status, busy, no_matching_relup, of_version, old_processes}
use Rattle.shell_answers.specs.Relups.{no_entry, of_name}
use Rattle.erl_term.specs.Text.{elements_text, is_quoted_word, text, utf8}
use Rattle.erl_term.specs.declared.term.Term.{Term}
use Rattle.erl_semantics.specs.declared.acts.Place.TheVariants.{Loop}
use Rattle.shell_answers.specs.Answers.{carried_out, finished, installing, recovered, restarted, swept}
use Rattle.shell_answers.specs.Answers.{AreNames, activity_of, characters_of, apps_of, arrival_of, arrivals_of, committed, line_of, listed, loaded, modules_of, process_of, replied_by, replies_in, replies_of, rows_of, stopped_undo, undone_steps, floor_at, mark_at, called, job_of, pair, named_versions, place_of, release_of, releases_in, revived, set_unpacked, status_of, told_as, triple}
use Rattle.shell_answers.specs.Faults.{fault_of, kind_word, file_fault, placed, start_failed, term_fault}
use Rattle.shell_answers.proofs.Pieces.{AreTuples, AreTuples-append, bytes, bracket-front, bracket-bytes, list-alone, list-bytes, part, pid-pieces, tuple-alone, tuple-bytes}

-- Tuples of two and of three

pub pair-pieces : (t u : Tree) → 123 ∷ [] ++ (bytes t ++ (44 ∷ [] ++ (bytes u ++ 125 ∷ []))) ≡ bytes (pair t u)
pair-pieces t u = sym (tuple-alone t (more u none))

pub triple-pieces : (t u v : Tree) → 123 ∷ [] ++ (bytes t ++ (44 ∷ [] ++ (bytes u ++ (44 ∷ [] ++ (bytes v ++ 125 ∷ []))))) ≡ bytes (triple t u v)
triple-pieces t u v = sym (tuple-alone t (more u (more v none)))

-- Lines of one tuple

pub loaded-line : (name : List ℕ) → codes "{module," ++ (bytes (atom name) ++ codes "}\n") ≡ line_of (loaded name)
unfolding utf8 is_quoted_word encode
loaded-line name = sym (tuple-bytes (atom (codes "module")) (more (atom name) none) (10 ∷ []))

pub mark-line : (n : ℕ) → codes "{mark," ++ (bytes (int (pos n)) ++ codes "}\n") ≡ line_of (mark_at n)
unfolding utf8 is_quoted_word encode
mark-line n =
    sym (tuple-bytes (atom (codes "mark")) (more (int (pos n)) none) (10 ∷ []))

pub floor-line : (n : ℕ) → codes "{floor," ++ (bytes (int (pos n)) ++ codes "}\n") ≡ line_of (floor_at n)
unfolding utf8 is_quoted_word encode
floor-line n =
    sym (tuple-bytes (atom (codes "floor")) (more (int (pos n)) none) (10 ∷ []))

pub called-line : (n : ℕ) → codes "{call," ++ (bytes (int (pos n)) ++ codes "}\n") ≡ line_of (called n)
unfolding utf8 is_quoted_word encode
called-line n =
    sym (tuple-bytes (atom (codes "call")) (more (int (pos n)) none) (10 ∷ []))

pub job-line : (index n : ℕ) → codes "{job," ++ (bytes (int (pos index)) ++ (44 ∷ [] ++ (bytes (pid n) ++ codes "}\n"))) ≡ line_of (job_of index n)
unfolding utf8 is_quoted_word encode
job-line index n =
    sym (tuple-bytes (atom (codes "job")) (more (int (pos index)) (more (pid n) none)) (10 ∷ []))

-- and where the pid stands in pieces
pub job-pieces : (index n : ℕ) → codes "{job," ++ (bytes (int (pos index)) ++ (codes ",<0." ++ (bytes (int (pos n)) ++ codes ".0>}\n"))) ≡ line_of (job_of index n)
job-pieces index n =
    let number = bytes (int (pos n)) in
    let apart : (codes "<0." ++ (number ++ codes ".0>")) ++ codes "}\n" ≡ codes "<0." ++ (number ++ codes ".0>}\n") = append_assoc (codes "<0.") (number ++ codes ".0>") (codes "}\n") ∙ ap (λ l. codes "<0." ++ l) (append_assoc number (codes ".0>") (codes "}\n")) in
    ap (λ l. codes "{job," ++ (bytes (int (pos index)) ++ 44 ∷ l)) (sym apart ∙ ap (λ l. l ++ codes "}\n") (pid-pieces n)) ∙ job-line index n

pub revived-line : (n : ℕ) → codes "{revived," ++ (bytes (pid n) ++ codes "}\n") ≡ line_of (revived n)
unfolding utf8 is_quoted_word encode
revived-line n = sym (tuple-bytes (atom (codes "revived")) (more (pid n) none) (10 ∷ []))

-- Replies

pub reply-pieces : (client number : ℕ) (t : Term) → codes "{reply," ++ (bytes (int (pos client)) ++ 44 ∷ (bytes (int (pos number)) ++ 44 ∷ (bytes (tree t) ++ 125 ∷ []))) ≡ bytes (told_as (codes "reply") client number t)
unfolding utf8 is_quoted_word encode
reply-pieces client number t =
    sym (tuple-alone (atom (codes "reply")) (more (int (pos client)) (more (int (pos number)) (more (tree t) none))))

pub down-pieces : (client number : ℕ) (t : Term) → codes "{down," ++ (bytes (int (pos client)) ++ 44 ∷ (bytes (int (pos number)) ++ 44 ∷ (bytes (tree t) ++ 125 ∷ []))) ≡ bytes (told_as (codes "down") client number t)
unfolding utf8 is_quoted_word encode
down-pieces client number t =
    sym (tuple-alone (atom (codes "down")) (more (int (pos client)) (more (int (pos number)) (more (tree t) none))))

-- Indices

pub server-pieces : (m : List ℕ) (state : Tree) → codes "{server," ++ (bytes (atom m) ++ (44 ∷ [] ++ (bytes state ++ 125 ∷ []))) ≡ bytes (triple (atom (codes "server")) (atom m) state)
unfolding utf8 is_quoted_word encode
server-pieces m state = sym (tuple-alone (atom (codes "server")) (more (atom m) (more state none)))

pub loop-pieces : (m name : List ℕ) (args : Trees) (serial : ℕ) → codes "{loop," ++ (bytes (atom m) ++ (44 ∷ [] ++ (bytes (atom name) ++ (44 ∷ [] ++ (bytes (list args) ++ (44 ∷ [] ++ (bytes (int (pos serial)) ++ 125 ∷ []))))))) ≡ bytes (place_of (Loop m serial name args))
unfolding utf8 is_quoted_word encode
loop-pieces m name args serial =
    sym (tuple-alone (atom (codes "loop")) (more (atom m) (more (atom name) (more (list args) (more (int (pos serial)) none)))))

-- Faults

pub start_failed-line : (child reason : Term) → codes "{error,{start_failed," ++ (bytes (tree child) ++ (44 ∷ [] ++ (bytes (tree reason) ++ codes "}}\n"))) ≡ line_of (start_failed child reason)
unfolding utf8 is_quoted_word encode
start_failed-line child reason =
    let inner = triple (atom (codes "start_failed")) (tree child) (tree reason) in
    sym (tuple-bytes (atom (codes "error")) (more inner none) (10 ∷ []) ∙ ap (λ l. codes "{error," ++ l) (tuple-bytes (atom (codes "start_failed")) (more (tree child) (more (tree reason) none)) (125 ∷ 10 ∷ [])))

pub kind-bytes : (kind : Fault) → bytes (atom (kind_word kind)) ≡ kind_word kind
unfolding utf8 is_quoted_word encode
kind-bytes kinds.NotUtf8 = refl
kind-bytes kinds.BadChar = refl
kind-bytes kinds.Unclosed = refl
kind-bytes kinds.BadEscape = refl
kind-bytes kinds.IntegerRange = refl
kind-bytes kinds.Unsupported = refl
kind-bytes kinds.MissingDot = refl
kind-bytes kinds.TooDeep = refl
kind-bytes kinds.AtomTooLong = refl
kind-bytes kinds.Syntax = refl
kind-bytes kinds.Memory = refl

pub placed-pieces : (word : List ℕ) (at : ℕ) → bytes (atom word) ≡ word → 123 ∷ (word ++ 44 ∷ (bytes (int (pos at)) ++ 125 ∷ [])) ≡ bytes (placed word at)
placed-pieces word at is =
    ap (λ w. 123 ∷ (w ++ 44 ∷ (bytes (int (pos at)) ++ 125 ∷ []))) (sym is) ∙ sym (tuple-alone (atom word) (more (int (pos at)) none))

pub term_fault-line : (kind : Fault) (at : ℕ) → codes "{error," ++ ((123 ∷ (kind_word kind ++ 44 ∷ (bytes (int (pos at)) ++ 125 ∷ []))) ++ codes "}\n") ≡ line_of (term_fault kind at)
unfolding utf8 is_quoted_word encode
term_fault-line kind at =
    ap (λ l. codes "{error," ++ (l ++ codes "}\n")) (placed-pieces (kind_word kind) at (kind-bytes kind)) ∙ sym (tuple-bytes (atom (codes "error")) (more (placed (kind_word kind) at) none) (10 ∷ []))

pub file_fault-line : (path : List ℕ) (fault : FileFault) → codes "{error,{file," ++ (bytes (list (integers (chars path))) ++ (44 ∷ [] ++ (bytes (fault_of fault) ++ codes "}}\n"))) ≡ line_of (file_fault path fault)
unfolding utf8 is_quoted_word encode
file_fault-line path fault =
    let shown = list (integers (chars path)) in
    sym (tuple-bytes (atom (codes "error")) (more (triple (atom (codes "file")) shown (fault_of fault)) none) (10 ∷ []) ∙ ap (λ l. codes "{error," ++ l) (tuple-bytes (atom (codes "file")) (more shown (more (fault_of fault) none)) (125 ∷ 10 ∷ [])))

-- Processes

pub process-line : (p : ProcessState) → codes "{proc," ++ (bytes (pid p.pid) ++ (44 ∷ [] ++ (bytes (place_of p.place) ++ (44 ∷ [] ++ (bytes (activity_of p.activity) ++ (44 ∷ [] ++ (bytes (int (pos p.turn)) ++ (44 ∷ [] ++ (bytes (list (trees p.mailbox)) ++ codes "}\n"))))))))) ≡ line_of (process_of p)
unfolding utf8 is_quoted_word encode
process-line p =
    sym (tuple-bytes (atom (codes "proc")) (more (pid p.pid) (more (place_of p.place) (more (activity_of p.activity) (more (int (pos p.turn)) (more (list (trees p.mailbox)) none))))) (10 ∷ []))

-- Lists of tuples

pub modules-tuples : (es : List (Entry Forms)) → AreTuples (modules_of es)
modules-tuples [] = tt
modules-tuples (e ∷ es) = modules-tuples es

pub apps-tuples : (apps : List Application) → AreTuples (apps_of apps)
apps-tuples [] = tt
apps-tuples (a ∷ apps) = apps-tuples apps

reply-tuple : (body : ReplyBody) (client number : ℕ) (others : Trees) → AreTuples others → AreTuples (more (replied_by body client number) others)
reply-tuple (bodies.Reply t) client number others are = are
reply-tuple (bodies.Down t) client number others are = are

pub replies-tuples : (rs : List Reply) → AreTuples (replies_in rs)
replies-tuples [] = tt
replies-tuples (r ∷ rs) = reply-tuple r.body r.client r.number (replies_in rs) (replies-tuples rs)

pub rows-tuples : (rows : List (List Reply)) → AreTuples (rows_of rows)
rows-tuples [] = tt
rows-tuples (row ∷ rows) = AreTuples-append (replies_in row) (rows_of rows) (replies-tuples row) (rows-tuples rows)

pub noted-tuples : (notes : List Note) → AreTuples (replies_of notes)
noted-tuples [] = tt
noted-tuples (n ∷ notes) = AreTuples-append (replies_in n.replies) (replies_of notes) (replies-tuples n.replies) (noted-tuples notes)

arrival-tuples : (o : Option (List ℕ × Term)) → AreTuples (arrival_of o)
arrival-tuples None = tt
arrival-tuples (Some it) = tt

pub arrivals-tuples : (notes : List Note) → AreTuples (arrivals_of notes)
arrivals-tuples [] = tt
arrivals-tuples (n ∷ notes) = AreTuples-append (arrival_of n.arrival) (arrivals_of notes) (arrival-tuples n.arrival) (arrivals-tuples notes)

-- a list on a line of its own
pub list-line : (ts : Trees) → AreTuples ts → codes "[" ++ (utf8 (elements_text ts) ++ codes "]\n") ≡ line_of (list ts)
list-line ts are = sym (list-bytes ts (10 ∷ []) are)

pub committed-line : (rs : List Reply) → codes "{committed,[" ++ (utf8 (listed true (replies_in rs)) ++ codes "]}\n") ≡ line_of (committed rs)
unfolding utf8 is_quoted_word encode
committed-line rs =
    sym (tuple-bytes (atom (codes "committed")) (more (list (replies_in rs)) none) (10 ∷ []) ∙ ap (λ l. codes "{committed," ++ l) (list-bytes (replies_in rs) (125 ∷ 10 ∷ []) (replies-tuples rs)))

-- Reports

pub report-pieces : (cut : ℕ) (notes : List Note) → bytes (int (pos cut)) ++ (codes ",[" ++ (utf8 (elements_text (replies_of notes)) ++ (codes "],[" ++ (utf8 (elements_text (arrivals_of notes)) ++ codes "]")))) ≡ bytes (int (pos cut)) ++ 44 ∷ (bytes (list (replies_of notes)) ++ 44 ∷ bytes (list (arrivals_of notes)))
report-pieces cut notes =
    let replies = replies_of notes in
    let arrivals = arrivals_of notes in
    sym (ap (λ l. bytes (int (pos cut)) ++ 44 ∷ l) (list-bytes replies (44 ∷ bytes (list arrivals)) (noted-tuples notes) ∙ ap (λ l. 91 ∷ (utf8 (elements_text replies) ++ 93 ∷ 44 ∷ l)) (list-alone arrivals (arrivals-tuples notes))))

regrouped : (x y z w : List ℕ) → (x ++ 44 ∷ (y ++ 44 ∷ z)) ++ w ≡ x ++ 44 ∷ (y ++ 44 ∷ (z ++ w))
regrouped x y z w = append_assoc x (44 ∷ (y ++ 44 ∷ z)) w ∙ ap (λ l. x ++ 44 ∷ l) (append_assoc y (44 ∷ z) w)

pub undone-line : (report : Report Note) → codes "{undone," ++ ((bytes (int (pos report.cut)) ++ 44 ∷ (bytes (list (replies_of report.notes)) ++ 44 ∷ bytes (list (arrivals_of report.notes)))) ++ codes "}\n") ≡ line_of (undone_steps report)
unfolding utf8 is_quoted_word encode
undone-line report =
    let replies = list (replies_of report.notes) in
    let arrivals = list (arrivals_of report.notes) in
    ap (λ l. codes "{undone," ++ l) (regrouped (bytes (int (pos report.cut))) (bytes replies) (bytes arrivals) (codes "}\n")) ∙ sym (tuple-bytes (atom (codes "undone")) (more (int (pos report.cut)) (more replies (more arrivals none))) (10 ∷ []))

pub stopped-line : (mark : ℕ) (report : Report Note) → codes "{error,{memory," ++ (bytes (int (pos mark)) ++ (44 ∷ [] ++ ((bytes (int (pos report.cut)) ++ 44 ∷ (bytes (list (replies_of report.notes)) ++ 44 ∷ bytes (list (arrivals_of report.notes)))) ++ codes "}}\n"))) ≡ line_of (stopped_undo mark report)
unfolding utf8 is_quoted_word encode
stopped-line mark report =
    let replies = list (replies_of report.notes) in
    let arrivals = list (arrivals_of report.notes) in
    let inner = more (int (pos mark)) (more (int (pos report.cut)) (more replies (more arrivals none))) in
    ap (λ l. codes "{error,{memory," ++ (bytes (int (pos mark)) ++ 44 ∷ l)) (regrouped (bytes (int (pos report.cut))) (bytes replies) (bytes arrivals) (codes "}}\n")) ∙ sym (tuple-bytes (atom (codes "error")) (more (tuple (more (atom (codes "memory")) inner)) none) (10 ∷ []) ∙ ap (λ l. codes "{error," ++ l) (tuple-bytes (atom (codes "memory")) inner (125 ∷ 10 ∷ [])))

-- Words

pub syntax-word : bytes (atom (codes "syntax")) ≡ codes "syntax"
unfolding utf8 is_quoted_word encode
syntax-word = refl

pub unsupported-word : bytes (atom (codes "unsupported")) ≡ codes "unsupported"
unfolding utf8 is_quoted_word encode
unsupported-word = refl

pub duplicate_function-word : bytes (atom (codes "duplicate_function")) ≡ codes "duplicate_function"
unfolding utf8 is_quoted_word encode
duplicate_function-word = refl

pub unbound_variable-word : bytes (atom (codes "unbound_variable")) ≡ codes "unbound_variable"
unfolding utf8 is_quoted_word encode
unbound_variable-word = refl

pub undefined_local-word : bytes (atom (codes "undefined_local")) ≡ codes "undefined_local"
unfolding utf8 is_quoted_word encode
undefined_local-word = refl

pub missing-word : bytes (atom (codes "missing")) ≡ codes "missing"
unfolding utf8 is_quoted_word encode
missing-word = refl

pub wrong_module-word : bytes (atom (codes "wrong_module")) ≡ codes "wrong_module"
unfolding utf8 is_quoted_word encode
wrong_module-word = refl

pub idle-word : bytes (atom (codes "idle")) ≡ codes "idle"
unfolding utf8 is_quoted_word encode
idle-word = refl

pub suspended-word : bytes (atom (codes "suspended")) ≡ codes "suspended"
unfolding utf8 is_quoted_word encode
suspended-word = refl

pub running-word : bytes (atom (codes "running")) ≡ codes "running"
unfolding utf8 is_quoted_word encode
running-word = refl

pub none-word : bytes (atom (codes "none")) ≡ codes "none"
unfolding utf8 is_quoted_word encode
none-word = refl

pub no_term-word : bytes (atom (codes "no_term")) ≡ codes "no_term"
unfolding utf8 is_quoted_word encode
no_term-word = refl

pub many_terms-word : bytes (atom (codes "many_terms")) ≡ codes "many_terms"
unfolding utf8 is_quoted_word encode
many_terms-word = refl

pub shape-word : bytes (atom (codes "shape")) ≡ codes "shape"
unfolding utf8 is_quoted_word encode
shape-word = refl

pub duplicate_key-word : bytes (atom (codes "duplicate_key")) ≡ codes "duplicate_key"
unfolding utf8 is_quoted_word encode
duplicate_key-word = refl

pub bad_instruction-word : bytes (atom (codes "bad_instruction")) ≡ codes "bad_instruction"
unfolding utf8 is_quoted_word encode
bad_instruction-word = refl

pub pattern_version-word : bytes (atom (codes "pattern_version")) ≡ codes "pattern_version"
unfolding utf8 is_quoted_word encode
pattern_version-word = refl

pub out_of_profile-word : bytes (atom (codes "out_of_profile")) ≡ codes "out_of_profile"
unfolding utf8 is_quoted_word encode
out_of_profile-word = refl

pub memory-word : bytes (atom (codes "memory")) ≡ codes "memory"
unfolding utf8 is_quoted_word encode
memory-word = refl

pub duplicate_module-word : bytes (atom (codes "duplicate_module")) ≡ codes "duplicate_module"
unfolding utf8 is_quoted_word encode
duplicate_module-word = refl

pub unpacked-word : bytes (atom (codes "unpacked")) ≡ codes "unpacked"
unfolding utf8 is_quoted_word encode
unpacked-word = refl

pub current-word : bytes (atom (codes "current")) ≡ codes "current"
unfolding utf8 is_quoted_word encode
current-word = refl

pub permanent-word : bytes (atom (codes "permanent")) ≡ codes "permanent"
unfolding utf8 is_quoted_word encode
permanent-word = refl

pub old-word : bytes (atom (codes "old")) ≡ codes "old"
unfolding utf8 is_quoted_word encode
old-word = refl

pub exists-word : bytes (atom (codes "exists")) ≡ codes "exists"
unfolding utf8 is_quoted_word encode
exists-word = refl

pub no_such_release-word : bytes (atom (codes "no_such_release")) ≡ codes "no_such_release"
unfolding utf8 is_quoted_word encode
no_such_release-word = refl

pub already_installed-word : bytes (atom (codes "already_installed")) ≡ codes "already_installed"
unfolding utf8 is_quoted_word encode
already_installed-word = refl

-- Releases

pub unpacked-line : (vsn : List ℕ) → codes "{ok," ++ (bytes (string_tree vsn) ++ codes "}\n") ≡ line_of (set_unpacked vsn)
unfolding utf8 is_quoted_word encode
unpacked-line vsn = sym (tuple-bytes (atom (codes "ok")) (more (string_tree vsn) none) (10 ∷ []))

bracketed-strings : (names : List (List ℕ)) → text (list (rows string_tree names)) ≡ 91 ∷ (elements_text (rows string_tree names) ++ 93 ∷ [])
bracketed-strings [] = refl
bracketed-strings (name ∷ names) = refl

strings-bytes : (names : List (List ℕ)) → bytes (list (rows string_tree names)) ≡ 91 ∷ (utf8 (elements_text (rows string_tree names)) ++ 93 ∷ [])
strings-bytes names =
    let inner = elements_text (rows string_tree names) in
    ap utf8 (bracketed-strings names) ∙ bracket-front (inner ++ 93 ∷ []) ∙ ap (λ l. 91 ∷ l) (part inner (93 ∷ []) (utf8 inner) (93 ∷ []) refl bracket-bytes)

pub release-pieces : (it : Listed) → codes "{" ++ (bytes (string_tree it.release.rel.name) ++ (codes "," ++ (bytes (string_tree it.release.rel.vsn) ++ (codes ",[" ++ (utf8 (elements_text (rows string_tree (named_versions it))) ++ (codes "]," ++ (bytes (status_of it.status) ++ codes "}"))))))) ≡ bytes (release_of it)
release-pieces it =
    let name = string_tree it.release.rel.name in
    let vsn = string_tree it.release.rel.vsn in
    let names = list (rows string_tree (named_versions it)) in
    let inner = utf8 (elements_text (rows string_tree (named_versions it))) in
    let status = bytes (status_of it.status) in
    sym (tuple-alone name (more vsn (more names (more (status_of it.status) none)))
    ∙ ap (λ l. 123 ∷ (bytes name ++ 44 ∷ (bytes vsn ++ 44 ∷ (l ++ 44 ∷ (status ++ 125 ∷ []))))) (strings-bytes (named_versions it))
    ∙ ap (λ l. 123 ∷ (bytes name ++ 44 ∷ (bytes vsn ++ 44 ∷ 91 ∷ l))) (append_assoc inner (93 ∷ []) (44 ∷ (status ++ 125 ∷ []))))

pub releases-tuples : (releases : List Listed) → AreTuples (releases_in releases)
releases-tuples [] = tt
releases-tuples (it ∷ others) = releases-tuples others

pub of_version-line : (word vsn : List ℕ) → bytes (atom word) ≡ word → codes "{error,{" ++ (word ++ (44 ∷ [] ++ (bytes (string_tree vsn) ++ codes "}}\n"))) ≡ line_of (of_version word vsn)
unfolding utf8 is_quoted_word encode
of_version-line word vsn is =
    ap (λ w. codes "{error,{" ++ (w ++ (44 ∷ (bytes (string_tree vsn) ++ codes "}}\n")))) (sym is) ∙ sym (tuple-bytes (atom (codes "error")) (more (pair (atom word) (string_tree vsn)) none) (10 ∷ []) ∙ ap (λ l. codes "{error," ++ l) (tuple-bytes (atom word) (more (string_tree vsn) none) (125 ∷ 10 ∷ [])))

pub bad_status-line : (vsn : List ℕ) (status : Status) → codes "{error,{bad_status," ++ (bytes (string_tree vsn) ++ (44 ∷ [] ++ (bytes (status_of status) ++ codes "}}\n"))) ≡ line_of (bad_status vsn status)
unfolding utf8 is_quoted_word encode
bad_status-line vsn status =
    sym (tuple-bytes (atom (codes "error")) (more (triple (atom (codes "bad_status")) (string_tree vsn) (status_of status)) none) (10 ∷ []) ∙ ap (λ l. codes "{error," ++ l) (tuple-bytes (atom (codes "bad_status")) (more (string_tree vsn) (more (status_of status) none)) (125 ∷ 10 ∷ [])))

-- Scripts

pub begun-line : (vsn : List ℕ) (n : ℕ) → codes "{installing," ++ (bytes (string_tree vsn) ++ (codes "," ++ (bytes (int (pos n)) ++ codes "}\n"))) ≡ line_of (installing vsn n)
unfolding utf8 is_quoted_word encode
begun-line vsn n = sym (tuple-bytes (atom (codes "installing")) (more (string_tree vsn) (more (int (pos n)) none)) (10 ∷ []))

pub carried_out-line : (instruction : Tree) → codes "{done," ++ (bytes instruction ++ codes "}\n") ≡ line_of (carried_out instruction)
unfolding utf8 is_quoted_word encode
carried_out-line instruction = sym (tuple-bytes (atom (codes "done")) (more instruction none) (10 ∷ []))

pub finished-line : (vsn : List ℕ) (description : Term) → codes "{ok," ++ (bytes (string_tree vsn) ++ (codes "," ++ (bytes (tree description) ++ codes "}\n"))) ≡ line_of (finished vsn description)
unfolding utf8 is_quoted_word encode
finished-line vsn description =
    sym (tuple-bytes (atom (codes "ok")) (more (string_tree vsn) (more (tree description) none)) (10 ∷ []))

pub recovered-line : (reason : Term) → codes "{recovered," ++ (bytes (tree reason) ++ codes "}\n") ≡ line_of (recovered reason)
unfolding utf8 is_quoted_word encode
recovered-line reason = sym (tuple-bytes (atom (codes "recovered")) (more (tree reason) none) (10 ∷ []))

pub restarted-line : (reason : Term) → codes "{restarted," ++ (bytes (tree reason) ++ codes "}\n") ≡ line_of (restarted reason)
unfolding utf8 is_quoted_word encode
restarted-line reason = sym (tuple-bytes (atom (codes "restarted")) (more (tree reason) none) (10 ∷ []))

bracketed-names : (names : List (List ℕ)) → text (names_tree names) ≡ 91 ∷ (elements_text (rows atom names) ++ 93 ∷ [])
bracketed-names [] = refl
bracketed-names (name ∷ names) = refl

names-bytes : (names : List (List ℕ)) → bytes (names_tree names) ≡ 91 ∷ (utf8 (elements_text (rows atom names)) ++ 93 ∷ [])
names-bytes names =
    let inner = elements_text (rows atom names) in
    ap utf8 (bracketed-names names) ∙ bracket-front (inner ++ 93 ∷ []) ∙ ap (λ l. 91 ∷ l) (part inner (93 ∷ []) (utf8 inner) (93 ∷ []) refl bracket-bytes)

pub swept-line : (names : List (List ℕ)) → codes "{swept,[" ++ (utf8 (elements_text (rows atom names)) ++ codes "]}\n") ≡ line_of (swept names)
unfolding utf8 is_quoted_word encode
swept-line names =
    let inner = utf8 (elements_text (rows atom names)) in
    sym (tuple-bytes (atom (codes "swept")) (more (names_tree names) none) (10 ∷ [])
    ∙ ap (λ l. codes "{swept," ++ (l ++ codes "}\n")) (names-bytes names)
    ∙ ap (λ l. codes "{swept,[" ++ l) (append_assoc inner (93 ∷ []) (codes "}\n")))

pub no_matching_relup-line : (vsn running : List ℕ) → codes "{error,{no_matching_relup," ++ (bytes (string_tree vsn) ++ (codes "," ++ (bytes (string_tree running) ++ codes "}}\n"))) ≡ line_of (no_matching_relup vsn running)
unfolding utf8 is_quoted_word encode
no_matching_relup-line vsn running =
    let inner = triple (atom (codes "no_matching_relup")) (string_tree vsn) (string_tree running) in
    sym (tuple-bytes (atom (codes "error")) (more inner none) (10 ∷ []) ∙ ap (λ l. codes "{error," ++ l) (tuple-bytes (atom (codes "no_matching_relup")) (more (string_tree vsn) (more (string_tree running) none)) (125 ∷ 10 ∷ [])))

bad_script-word : bytes (atom (codes "bad_script")) ≡ codes "bad_script"
unfolding utf8 is_quoted_word encode
bad_script-word = refl

pub bad_script-line : (index : ℕ) → codes "{error," ++ ((123 ∷ (codes "bad_script" ++ 44 ∷ (bytes (int (pos index)) ++ 125 ∷ []))) ++ codes "}\n") ≡ line_of (bad_script index)
unfolding utf8 is_quoted_word encode
bad_script-line index =
    ap (λ l. codes "{error," ++ (l ++ codes "}\n")) (placed-pieces (codes "bad_script") index bad_script-word) ∙ sym (tuple-bytes (atom (codes "error")) (more (placed (codes "bad_script") index) none) (10 ∷ []))

pub old_processes-line : (name : List ℕ) → codes "{error,{old_processes," ++ (bytes (atom name) ++ codes "}}\n") ≡ line_of (old_processes (Some name))
unfolding utf8 is_quoted_word encode
old_processes-line name =
    sym (tuple-bytes (atom (codes "error")) (more (pair (atom (codes "old_processes")) (atom name)) none) (10 ∷ []) ∙ ap (λ l. codes "{error," ++ l) (tuple-bytes (atom (codes "old_processes")) (more (atom name) none) (125 ∷ 10 ∷ [])))

pub no_old_processes-line : codes "{error,old_processes}\n" ≡ line_of (old_processes None)
unfolding utf8 is_quoted_word encode
no_old_processes-line = refl

pub busy-line : (n : ℕ) → codes "{error,{busy," ++ (bytes (pid n) ++ codes "}}\n") ≡ line_of (busy n)
unfolding utf8 is_quoted_word encode
busy-line n =
    sym (tuple-bytes (atom (codes "error")) (more (pair (atom (codes "busy")) (pid n)) none) (10 ∷ []) ∙ ap (λ l. codes "{error," ++ l) (tuple-bytes (atom (codes "busy")) (more (pid n) none) (125 ∷ 10 ∷ [])))

-- Relups

-- the front of `{error,{Word,Name}}`
pub of_name-line : (word name : List ℕ) → bytes (atom word) ≡ word → codes "{error,{" ++ (word ++ (44 ∷ [] ++ (bytes (atom name) ++ codes "}}\n"))) ≡ line_of (of_name word name)
unfolding utf8 is_quoted_word encode
of_name-line word name is =
    ap (λ w. codes "{error,{" ++ (w ++ (44 ∷ (bytes (atom name) ++ codes "}}\n")))) (sym is) ∙ sym (tuple-bytes (atom (codes "error")) (more (pair (atom word) (atom name)) none) (10 ∷ []) ∙ ap (λ l. codes "{error," ++ l) (tuple-bytes (atom word) (more (atom name) none) (125 ∷ 10 ∷ [])))

pub base_changed-line : (name : List ℕ) → codes "{error,{base_changed," ++ (bytes (atom name) ++ codes "}}\n") ≡ line_of (of_name (codes "base_changed") name)
unfolding utf8 is_quoted_word encode
base_changed-line name = of_name-line (codes "base_changed") name refl

pub no_appup-line : (name : List ℕ) → codes "{error,{no_appup," ++ (bytes (atom name) ++ codes "}}\n") ≡ line_of (of_name (codes "no_appup") name)
unfolding utf8 is_quoted_word encode
no_appup-line name = of_name-line (codes "no_appup") name refl

pub unknown_module-line : (name : List ℕ) → codes "{error,{unknown_module," ++ (bytes (atom name) ++ codes "}}\n") ≡ line_of (of_name (codes "unknown_module") name)
unfolding utf8 is_quoted_word encode
unknown_module-line name = of_name-line (codes "unknown_module") name refl

pub no_entry-line : (app vsn : List ℕ) → codes "{error,{no_entry," ++ (bytes (atom app) ++ (codes "," ++ (bytes (string_tree vsn) ++ codes "}}\n"))) ≡ line_of (no_entry app vsn)
unfolding utf8 is_quoted_word encode
no_entry-line app vsn =
    sym (tuple-bytes (atom (codes "error")) (more (triple (atom (codes "no_entry")) (atom app) (string_tree vsn)) none) (10 ∷ []) ∙ ap (λ l. codes "{error," ++ l) (tuple-bytes (atom (codes "no_entry")) (more (atom app) (more (string_tree vsn) none)) (125 ∷ 10 ∷ [])))

-- a name, a dash and a version
pub dashed : (name vsn first mid whole : List ℕ) → IsUtf8 name → IsUtf8 mid → first ≡ name → mid ≡ first ++ encode_utf8 45 → whole ≡ mid ++ vsn → chars whole ≡ chars name ++ 45 ∷ chars vsn
dashed name vsn first mid whole valid also p q r =
    let encoded = chars-encodes (45 ∷ []) refl in
    let one : chars (encode_utf8 45) ≡ 45 ∷ [] = rw append-nil at encoded in
    let front : chars mid ≡ chars name ++ 45 ∷ [] = ap chars (q ∙ ap (λ l. l ++ encode_utf8 45) p) ∙ chars-append name (encode_utf8 45) valid ∙ ap (λ cs. chars name ++ cs) one in
    ap chars r ∙ chars-append mid vsn also ∙ ap (λ cs. cs ++ chars vsn) front ∙ append_assoc (chars name) (45 ∷ []) (chars vsn)

-- the names of the release at an index
pub names_at : (names : List (Vec (String Global) Global)) (releases : List Listed) (k : ℕ) (row : Vec (String Global) Global) (it : Listed) → AreNames names releases → k < length releases → row ≡ get_or names k row → it ≡ get_or releases k it → characters_of row ≡ named_versions it
names_at names releases k row it are within is_row is =
    let long : length names ≡ length releases = sym (length-map names characters_of) ∙ ap length are ∙ length-map releases named_versions in
    let among : k < length names = omega (arith, long, within) in
    let none = characters_of row in
    ap characters_of is_row ∙ sym (get_or-map characters_of names k row none among) ∙ ap (λ rows. get_or rows k none) are ∙ get_or-map named_versions releases k it none within ∙ ap named_versions (sym is)
