-- The instructions of a file, as the tables of their forms tell them.
use Rattle.std.proofs.Common.{◌≡◌, ℕ, Bool, true, List, Option, Some, None, Result, Ok, Err, refl, sym, ap, subst, ◌∙◌, true≢false}
use Rattle.std.specs.Prelude.{codes}
use Rattle.std.proofs.lemmas.Slice.Eq.{bytes_eq-Decides}
use Rattle.erl_term.specs.Accessors.{atom_of}
use Rattle.erl_term.specs.Conversions.{given}
use Rattle.erl_term.specs.Tree.{Tree, Trees, atom, int, list, more, none, pid, tuple}
use Rattle.release_words.specs.declared.fault.InstructionFault.{InstructionFault}
use Rattle.release_words.specs.declared.fault.InstructionFault.TheVariants.{Bad, OutOfProfile}
use Rattle.release_words.specs.Forms.{ReadsAs}
use Rattle.release_words.specs.Reading.{leading_of, result_of}
use Rattle.low_instructions.specs.Forms.{IsLow, is_out_of_profile}
use Rattle.low_instructions.specs.Laws.{LowTable, is_low}
use Rattle.low_instructions.specs.Reading.{low_of, low_result}
use Rattle.high_instructions.specs.Reading.{high_of}
use Rattle.instructions.specs.Instructions.{InstructionTable, IsInstruction, instruction_result, is_instruction, of_high, of_low}
use Rattle.otp_files.specs.Upgrades.{IsAppupInstruction, IsExcluded, IsRelupInstruction}
use Rattle.otp_files.proofs.Scripts.{ReadsAll, IsReadAs}

told_so : {I : Type 0} (IsForm : Tree → I → Type 0) (is_so : I → Bool) (IsOut : Tree → Type 0) (t : Tree) (r : Result I InstructionFault) → ReadsAs IsForm is_so IsOut t r → IsReadAs (λ t i. IsForm t i × (is_so i ≡ true)) IsOut t r
told_so IsForm is_so IsOut t (Ok i) reads = reads
told_so IsForm is_so IsOut t (Err Bad) reads = (reads.0, λ says. reads.1 says.value says.is.1 says.is.0)
told_so IsForm is_so IsOut t (Err OutOfProfile) reads = reads

-- Relups

low_out : (t : Tree) → is_out_of_profile t ≡ true → low_result t ≡ Err OutOfProfile
unfolding low_result
low_out t out = ap (λ b. result_of b (low_of t)) out

pub low_tells : LowTable → ReadsAll low_result IsRelupInstruction IsExcluded
low_tells table = record {
  told = λ t. told_so IsLow is_low IsExcluded t (low_result t) (table.sound t);
  right = λ t l is. table.complete t l is.1 is.0;
  out = low_out;
}

-- Appups

never : {A B : Type 0} (o : Option A) → given {A = A} {B = B} o (λ q. None) ≡ None
never None = refl
never (Some x) = refl

abbrev syncing : Trees → Tree
syncing ts = tuple (more (atom (codes "sync_nodes")) ts)

restart_not_high : (cs : List ℕ) → high_of (atom cs) ≡ None
unfolding high_of
restart_not_high cs = refl

sync_not_high : (ts : Trees) → high_of (syncing ts) ≡ None
unfolding high_of
sync_not_high ts = never (leading_of atom_of ts)

out_not_high : (t : Tree) → is_out_of_profile t ≡ true → high_of t ≡ None
out_not_high (int n) out = absurd (true≢false (sym out))
out_not_high (atom cs) out = restart_not_high cs
out_not_high (pid n) out = absurd (true≢false (sym out))
out_not_high (tuple none) out = absurd (true≢false (sym out))
out_not_high (tuple (more (int n) ts)) out = absurd (true≢false (sym out))
out_not_high (tuple (more (atom cs) ts)) out =
    let P : List ℕ → Type 0 = λ ds. high_of (tuple (more (atom ds) ts)) ≡ None in
    subst P (sym ((bytes_eq-Decides cs (codes "sync_nodes")).0 out)) (sync_not_high ts)
out_not_high (tuple (more (pid n) ts)) out = absurd (true≢false (sym out))
out_not_high (tuple (more (tuple us) ts)) out = absurd (true≢false (sym out))
out_not_high (tuple (more (list us) ts)) out = absurd (true≢false (sym out))
out_not_high (list ts) out = absurd (true≢false (sym out))

instruction_out : (t : Tree) → is_out_of_profile t ≡ true → instruction_result t ≡ Err OutOfProfile
unfolding instruction_result
instruction_out t out = ap (λ r. of_high r (low_result t)) (out_not_high t out) ∙ ap of_low (low_out t out)

pub instruction_tells : InstructionTable → ReadsAll instruction_result IsAppupInstruction IsExcluded
instruction_tells table = record {
  told = λ t. told_so IsInstruction is_instruction IsExcluded t (instruction_result t) (table.sound t);
  right = λ t i is. table.complete t i is.1 is.0;
  out = instruction_out;
}
