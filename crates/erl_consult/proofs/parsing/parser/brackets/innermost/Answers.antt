-- The last bracket is the innermost.
use Rattle.std.proofs.Common.{◌≡◌, ◌-◌, List, [], ◌∷◌, Option, Some, None, length, arith, refl}
use Rattle.std.specs.Option.{MatchOption}
use Rattle.std.specs.Slice.{IsGetResult}
use denote.Bor.{Bor}
use Rattle.erl_consult.specs.declared.parsing.parser.Open.{Open}
use Rattle.erl_consult.specs.Parser.{frame_seen, frames, innermost_frame}
use Rattle.erl_consult.proofs.Stepping.{innermost_frame-last}
use Rattle.erl_consult.proofs.parsing.parser.brackets.innermost.Goals as goal

last_of : (os : List Open) (r : Option (Bor Open)) → IsGetResult os 0 (length os - 1) r → MatchOption r (frames os ≡ []) (λ o. innermost_frame (frames os) ≡ Some (frame_seen o.now))
last_of [] None is = refl
last_of (p ∷ os) None is = absurd (omega (arith, is.3))
last_of os (Some o) is =
    innermost_frame-last os o.now (length os - 1) (omega (arith, is.3.0)) (is.3.1 o.now)

pub returns : goal.returns
returns c = last_of c.args.brackets.now c.last.result c.last.ensures.item
