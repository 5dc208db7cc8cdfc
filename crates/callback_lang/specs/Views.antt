-- The code's values, as contracts see them.
use Rattle.std.specs.Prelude.{ℕ, List, option_map}
use Rattle.std.specs.Option.{option_copied}
use Rattle.erl_term.specs.Term.{tree}
use Rattle.erl_term.specs.Tree.{Tree}
use Rattle.erl_semantics.specs.Jobs as jobs
use Rattle.erl_semantics.specs.State.{exit, rest, server}
use Rattle.callback_lang.specs.declared.callbacks.Answer.{Answer}
use Rattle.callback_lang.specs.declared.callbacks.Answer.TheVariants as answers
use Rattle.callback_lang.specs.declared.callbacks.Callback.{Callback}
use Rattle.callback_lang.specs.declared.callbacks.Callback.TheVariants as callbacks

abbrev pub callback : Callback → jobs.Callback
callback (callbacks.Call from t) = jobs.handle_call (tree from.now) (tree t.now)
callback (callbacks.Cast t) = jobs.handle_cast (tree t.now)
callback (callbacks.Info t) = jobs.handle_info (tree t.now)

-- what is answered for a process in this callback module by a value, where it means this
abbrev pub answer_view : List ℕ → Tree → Answer → jobs.Answer
answer_view m v (answers.Rests answered state) = record
    { answered = option_map tree (option_copied answered); ended = rest (server m (tree state.now)) }
answer_view m v (answers.Stops answered reason) = record
    { answered = option_map tree (option_copied answered); ended = exit (tree reason.now) }
answer_view m v answers.Bad = jobs.bad_return_value v
