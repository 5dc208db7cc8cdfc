-- Code that comes of sources is evaluated by the rules that speak of sources alone.
use Rattle.std.specs.Prelude.{ℕ, List, All}
use Rattle.erl_term.specs.Tree.{Trees}
use Rattle.erl_ir.specs.Module.{Forms}
use Rattle.erl_lower.specs.WellScoped.{IsWellScoped, HasArities}
use Rattle.erl_parse.specs.Sources.{IsSource}
use Rattle.erl_semantics.specs.State.{Instance, World}
use Rattle.erl_semantics.specs.Jobs.{Evaluates, GivesJob, Job, Outcome, entered_in}
use Rattle.source_laws.specs.Formed.{IsWellFormed}
use Rattle.source_laws.specs.Regular.{JobIsRegular, OutsideIsRegular}

-- What is proved of each module of a source: variables are read where they are bound, clauses have as many patterns as their
-- function has arguments, and what stands in it is formed as the language asks.
pub record IsSound (m : Forms) : Type 0 where
  pub scopes : IsWellScoped m
  pub arities : HasArities m
  pub formed : IsWellFormed m

abbrev pub SourcesAreSound : Type 0
SourcesAreSound = (bytes : List ℕ) (m : Forms) → IsSource bytes m → IsSound m

-- An instance comes of a source.
abbrev pub ComesOfSource : Instance → Type 0
ComesOfSource i = (bytes : List ℕ) × IsSource bytes i.forms

-- each instance of the code does
abbrev pub ComesOfSources : List Instance → Type 0
ComesOfSources code = All ComesOfSource code

-- A call from outside of all modules is evaluated regularly, whatever its arguments, where the code comes of sources.
abbrev pub CallsAreRegular : Type 0
CallsAreRegular = (w : World) (m f : List ℕ) (args : Trees) (o : Outcome) → ComesOfSources w.code →
    (gives : Evaluates w m f args o) → OutsideIsRegular gives

-- So is a job, whatever its place and its message.
abbrev pub JobsAreRegular : Type 0
JobsAreRegular = (j : Job) (o : Outcome) → ComesOfSources j.code → (gives : GivesJob j o) →
    JobIsRegular j j.place (entered_in j.entry_serial j.code) o gives
