-- A report as JSON (RFC 8259): one object, whose member "verdict" has the verdict on the upgrade.
use Rattle.std.specs.Prelude.{◌≡◌, ℕ, List, Some, codes}
use Rattle.rehearsal_report.specs.Verdicts.{IsVerdict}
use Rattle.rehearsal_report.specs.declared.report.Report.{Report}
use Rattle.rehearsal_report.specs.declared.verdicts.Verdict.{Verdict}
use Rattle.rehearsal_report.specs.declared.verdicts.Verdict.TheVariants.{Goes, HasFindings, Fails}
use Rattle.serde_json.specs.Data.{Data, string}
use Rattle.serde_json.specs.Find.{get}
use Rattle.serde_json.specs.Written.{IsInOrder}

-- the word of a verdict

abbrev pub verdict_word : Verdict → List ℕ
verdict_word Goes = codes "goes"
verdict_word HasFindings = codes "has_findings"
verdict_word Fails = codes "fails"

-- An object whose member "verdict" has a word; and one that has the word of the verdict on a report.

abbrev pub HasWord : List ℕ → Data → Type 0
HasWord word d = get (codes "verdict") d ≡ Some (string word)

abbrev pub HasVerdict : Report → Data → Type 0
HasVerdict r d = (v : Verdict) × IsVerdict r v × HasWord (verdict_word v) d

-- a text is the text of such an object

abbrev pub IsJsonOf : Report → List ℕ → Type 0
IsJsonOf r text = (d : Data) × IsInOrder text d × HasVerdict r d
