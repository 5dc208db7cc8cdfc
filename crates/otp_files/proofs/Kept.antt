-- A relup's term says that relup.
use Rattle.std.proofs.Common.{◌≡◌, IfOk, List, [], ◌∷◌, Result, Ok, Err, true, map, refl}
use Rattle.std.specs.List.{All}
use Rattle.std.proofs.lemmas.List.Elements.{All-head, All-tail}
use Rattle.erl_term.specs.declared.term.Term.{Term}
use Rattle.erl_term.specs.Conversions.{rows}
use Rattle.low_instructions.specs.declared.low.Low.{Low}
use Rattle.low_instructions.specs.Forms.{low_tree, printed}
use Rattle.low_instructions.specs.Laws.{is_low}
use Rattle.release_words.specs.Words.{is_version}
use Rattle.otp_files.specs.declared.upgrade.Entry.{Entry}
use Rattle.otp_files.specs.declared.upgrade.Upgrades.{Upgrades}
use Rattle.otp_files.specs.declared.upgrade.drafts.Draft.{Draft}
use Rattle.otp_files.specs.Parts.{Each}
use Rattle.otp_files.specs.Upgrades.{AreEntries, IsWritable, IsRelup, IsRelupDraft, IsRelupInstruction, relup_entry_tree, relup_tree}

abbrev IsFine : Low → Type 0
IsFine low = is_low low ≡ true

script_kept : (ls : List Low) → All IsFine ls → Each IsRelupInstruction (rows low_tree ls) ls
script_kept [] all = tt
script_kept (l ∷ ls) all =
    ((printed refl, All-head IsFine l ls all), script_kept ls (All-tail IsFine l ls all))

abbrev draft : Entry Term Low → Draft Term
draft e = record { vsn = e.vsn; description = e.description; instructions = rows low_tree e.instructions }

drafts_kept : (es : List (Entry Term Low)) → All IsWritable es → Each IsRelupDraft (rows relup_entry_tree es) (map draft es)
drafts_kept [] all = tt
drafts_kept (e ∷ es) all =
    let kept = All-head IsWritable e es all in
    (record { first = _; second = _; third = _; is = refl; a = (refl, kept.vsn); b = refl; c = refl }, drafts_kept es (All-tail IsWritable e es all))

entries_kept : (es : List (Entry Term Low)) → All IsWritable es → AreEntries IsRelupInstruction (map draft es) es
entries_kept [] all = tt
entries_kept (e ∷ es) all =
    (record { vsn = refl; description = refl; instructions = script_kept e.instructions (All-head IsWritable e es all).instructions }, entries_kept es (All-tail IsWritable e es all))

pub relup_kept : (r : Upgrades Term Low) → is_version r.vsn ≡ true → All IsWritable r.up → All IsWritable r.down → IsRelup (relup_tree r) r
relup_kept r vsn up down =
    record {
      ups = map draft r.up;
      downs = map draft r.down;
      parts = record {
        first = _;
        second = _;
        third = _;
        is = refl;
        a = (refl, vsn);
        b = record { terms = rows relup_entry_tree r.up; is = refl; each = drafts_kept r.up up };
        c = record { terms = rows relup_entry_tree r.down; is = refl; each = drafts_kept r.down down };
      };
      up = entries_kept r.up up;
      down = entries_kept r.down down;
    }

-- what holds of a value by two facts
pub with_both : {A E : Type 0} {P Q R : A → Type 0} (r : Result A E) → IfOk r P → IfOk r Q → ((a : A) → P a → Q a → R a) → IfOk r R
with_both (Ok a) p q f = f a p q
with_both (Err e) p q f = tt
