-- Which script can be installed (relup(4); appup(4), Low-Level Instructions; release_handler(3), install_release/1): what
-- may stand before the point of no return, and what behind it.
use Rattle.std.specs.Prelude.{ℕ, Bool, true, false, not, ◌||◌, if◌then◌else◌, List, codes, length, take, Option, None, Some, slice_get}
use Rattle.std.specs.List.{find, list_any, range_with_len}
use Rattle.std.specs.Str.{bytes_eq}
use Rattle.low_instructions.specs.declared.low.Low.{Low}
use Rattle.low_instructions.specs.declared.low.Low.TheVariants.{LoadObjectCode, PointOfNoReturn, Load, Remove, Purge, Suspend, Resume, CodeChange, Stop, Start, Apply}

abbrev pub is_point : Low → Bool
is_point (LoadObjectCode application version modules) = false
is_point PointOfNoReturn = true
is_point (Load name pre_purge post_purge) = false
is_point (Remove name pre_purge post_purge) = false
is_point (Purge modules) = false
is_point (Suspend modules) = false
is_point (Resume modules) = false
is_point (CodeChange direction changes) = false
is_point (Stop modules) = false
is_point (Start modules) = false
is_point (Apply name function arguments) = false

-- one of these instructions is the point of no return
abbrev pub has_point : List Low → Bool
has_point instructions = list_any is_point instructions

-- an instruction reads the object code of a module, and one of these does

abbrev pub reads : List ℕ → Low → Bool
reads m (LoadObjectCode application version modules) = list_any (λ name. bytes_eq name m) modules
reads m PointOfNoReturn = false
reads m (Load name pre_purge post_purge) = false
reads m (Remove name pre_purge post_purge) = false
reads m (Purge modules) = false
reads m (Suspend modules) = false
reads m (Resume modules) = false
reads m (CodeChange direction changes) = false
reads m (Stop modules) = false
reads m (Start modules) = false
reads m (Apply name function arguments) = false

abbrev pub is_read : List ℕ → List Low → Bool
is_read m instructions = list_any (reads m) instructions

-- An instruction behind these is faulty: a second point; object code that is read behind the point; a load of a module
-- whose object code was not read; before the point anything but object code and the application of a function of a module
-- other than `application`.
abbrev pub is_faulty : List Low → Low → Bool
is_faulty before (LoadObjectCode application version modules) = has_point before
is_faulty before PointOfNoReturn = has_point before
is_faulty before (Load name pre_purge post_purge) = not (has_point before) || not (is_read name before)
is_faulty before (Remove name pre_purge post_purge) = not (has_point before)
is_faulty before (Purge modules) = not (has_point before)
is_faulty before (Suspend modules) = not (has_point before)
is_faulty before (Resume modules) = not (has_point before)
is_faulty before (CodeChange direction changes) = not (has_point before)
is_faulty before (Stop modules) = not (has_point before)
is_faulty before (Start modules) = not (has_point before)
is_faulty before (Apply name function arguments) = if bytes_eq name (codes "application") then not (has_point before) else false

abbrev pub any_faulty : List Low → Option Low → Bool
any_faulty before None = false
any_faulty before (Some i) = is_faulty before i

abbrev pub is_faulty_at : List Low → ℕ → Bool
is_faulty_at script index = any_faulty (take index script) (slice_get script index)

-- The least index of a faulty instruction, counted from 0; where none is faulty but the point is missing, the length of the
-- script.

abbrev pub or_missing : Option ℕ → List Low → Option ℕ
or_missing (Some index) script = Some index
or_missing None script = if has_point script then None else Some (length script)

abbrev pub bad_script : List Low → Option ℕ
bad_script script = or_missing (find (is_faulty_at script) (range_with_len 0 (length script))) script
