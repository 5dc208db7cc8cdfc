-- How atoms are kept: one that is predefined by its number alone, and every other as a text that its owners share.
use Rattle.std.specs.Prelude.{ℕ, List, codes}
use Rattle.std.specs.Arc.{arc_str_bytes}
use Rattle.std.specs.Str.{chars}
use Rattle.erl_term.specs.declared.predefined.Predefined.{Predefined}
use Rattle.erl_term.specs.declared.predefined.Predefined.TheVariants.{False, GenCall, GenCast, HandleCall, HandleCast, HandleInfo, Init, Killed, Normal, OkWord, True, Undef}
use Rattle.erl_term.specs.declared.predefined.Name.{Name}
use Rattle.erl_term.specs.declared.predefined.Name.TheVariants.{Known, Shared}

-- the characters of a predefined atom
abbrev pub spelled : Predefined → List ℕ
spelled True = codes "true"
spelled False = codes "false"
spelled OkWord = codes "ok"
spelled Normal = codes "normal"
spelled Killed = codes "killed"
spelled Undef = codes "undef"
spelled Init = codes "init"
spelled GenCall = codes "$gen_call"
spelled GenCast = codes "$gen_cast"
spelled HandleCall = codes "handle_call"
spelled HandleCast = codes "handle_cast"
spelled HandleInfo = codes "handle_info"

-- the characters of an atom, however it is kept
abbrev pub name_chars : Name → List ℕ
name_chars (Known it) = spelled it
name_chars (Shared text) = chars (arc_str_bytes text)
