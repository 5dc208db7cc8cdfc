-- The characters of a word are its bytes.
use Rattle.std.proofs.Common.{ap, sym, refl, ◌∙◌}
use Rattle.std.specs.Prelude.{codes}
use Rattle.erl_term.specs.Names.{spelled}
use Rattle.erl_term.proofs.Ascii.{chars_of-ascii}
use Rattle.erl_term.proofs.predefined.Predefined.as_str.Goals as goal

pub returns-in-True : goal.returns-in-True
returns-in-True c = chars_of-ascii (codes "true") refl ∙ ap spelled (sym c.in-True.is)

pub returns-in-False : goal.returns-in-False
returns-in-False c = chars_of-ascii (codes "false") refl ∙ ap spelled (sym c.in-False.is)

pub returns-in-OkWord : goal.returns-in-OkWord
returns-in-OkWord c = chars_of-ascii (codes "ok") refl ∙ ap spelled (sym c.in-OkWord.is)

pub returns-in-Normal : goal.returns-in-Normal
returns-in-Normal c = chars_of-ascii (codes "normal") refl ∙ ap spelled (sym c.in-Normal.is)

pub returns-in-Killed : goal.returns-in-Killed
returns-in-Killed c = chars_of-ascii (codes "killed") refl ∙ ap spelled (sym c.in-Killed.is)

pub returns-in-Undef : goal.returns-in-Undef
returns-in-Undef c = chars_of-ascii (codes "undef") refl ∙ ap spelled (sym c.in-Undef.is)

pub returns-in-Init : goal.returns-in-Init
returns-in-Init c = chars_of-ascii (codes "init") refl ∙ ap spelled (sym c.in-Init.is)

pub returns-in-GenCall : goal.returns-in-GenCall
returns-in-GenCall c = chars_of-ascii (codes "$gen_call") refl ∙ ap spelled (sym c.in-GenCall.is)

pub returns-in-GenCast : goal.returns-in-GenCast
returns-in-GenCast c = chars_of-ascii (codes "$gen_cast") refl ∙ ap spelled (sym c.in-GenCast.is)

pub returns-in-HandleCall : goal.returns-in-HandleCall
returns-in-HandleCall c = chars_of-ascii (codes "handle_call") refl ∙ ap spelled (sym c.in-HandleCall.is)

pub returns-in-HandleCast : goal.returns-in-HandleCast
returns-in-HandleCast c = chars_of-ascii (codes "handle_cast") refl ∙ ap spelled (sym c.in-HandleCast.is)

pub returns-in-HandleInfo : goal.returns-in-HandleInfo
returns-in-HandleInfo c = chars_of-ascii (codes "handle_info") refl ∙ ap spelled (sym c.in-HandleInfo.is)
