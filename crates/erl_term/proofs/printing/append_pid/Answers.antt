-- The digits stand between two words, and all are ASCII.
use Rattle.std.proofs.Common.{◌++◌, append_assoc, codes, ap, sym, ◌∙◌}
use Rattle.std.specs.Fmt.{decimal}
use Rattle.erl_term.specs.Text.{utf8}
use Rattle.erl_term.proofs.Appending.{joined_as, last}
use Rattle.erl_term.proofs.Texts.{pid-bytes}
use Rattle.erl_term.proofs.printing.append_pid.Goals as goal

pub returns : goal.returns
returns c =
    let n = c.args.n in
    let old = c.args.out.now.items in
    let first = c.put.new.out.items in
    let mid = c.put-2.new.out.items in
    let digits = c.as_bytes.ensures.value ∙ c.format.ensures.text in
    last c.put-3.result old mid c.put-3.new.out.items (codes "<0." ++ decimal n) (codes ".0>") (utf8 (codes "<0." ++ (decimal n ++ codes ".0>")))
    (joined_as old first mid (codes "<0.") _ (codes "<0." ++ decimal n) c.in_ok-put.ensures c.in_ok-put-2.ensures (ap (λ l. codes "<0." ++ l) digits)) c.put-3.ensures
    (append_assoc (codes "<0.") (decimal n) (codes ".0>") ∙ sym (pid-bytes n c.ranges.n.fits))
