-- High-level instructions as they are written, and what they mean (appup(4), High-Level Instructions): what a form
-- leaves out has its default, which is `soft` for a change, `brutal_purge` for each purge, `default` for a timeout,
-- `dynamic` for the kind of a module, `permanent` for the start of an application, and no modules to depend on. The update
-- of a supervisor has a form of its own, which stands for one of the whole forms.
use Rattle.std.specs.Prelude.{◌≡◌, ℕ, List, [], ◌∷◌, codes}
use Rattle.erl_term.specs.Conversions.{row}
use Rattle.erl_term.specs.declared.term.Term.{Term}
use Rattle.erl_term.specs.declared.term.Term.TheVariants.{List as ListOf}
use Rattle.erl_term.specs.Term.{tree}
use Rattle.erl_term.specs.Tree.{Tree, atom, tuple, none}
use Rattle.release_words.specs.declared.purge.Purge.{Purge}
use Rattle.release_words.specs.declared.purge.Purge.TheVariants.{Brutal}
use Rattle.release_words.specs.declared.start_type.StartType.{StartType}
use Rattle.release_words.specs.declared.start_type.StartType.TheVariants.{Permanent}
use Rattle.release_words.specs.declared.timeout.Timeout.{Timeout}
use Rattle.release_words.specs.declared.timeout.Timeout.TheVariants.{Default}
use Rattle.release_words.specs.Words.{form, word, names_tree, purge_tree, start_type_tree, timeout_tree}
use Rattle.high_instructions.specs.declared.high.ApplicationWork.{ApplicationWork}
use Rattle.high_instructions.specs.declared.high.ApplicationWork.TheVariants as works
use Rattle.high_instructions.specs.declared.high.High.{High}
use Rattle.high_instructions.specs.declared.high.High.TheVariants.{Module, Application}
use Rattle.high_instructions.specs.declared.high.ModuleWork.{ModuleWork}
use Rattle.high_instructions.specs.declared.high.ModuleWork.TheVariants.{Update, Load, Add, Delete}
use Rattle.high_instructions.specs.declared.words.Change.{Change}
use Rattle.high_instructions.specs.declared.words.Change.TheVariants.{Soft, Advanced}
use Rattle.high_instructions.specs.declared.words.ModuleType.{ModuleType}
use Rattle.high_instructions.specs.declared.words.ModuleType.TheVariants.{Static, Dynamic}

-- Words

abbrev pub module_type_tree : ModuleType → Tree
module_type_tree Static = word (codes "static")
module_type_tree Dynamic = word (codes "dynamic")

abbrev pub change_tree : Change → Tree
change_tree Soft = word (codes "soft")
change_tree (Advanced extra) = tuple (row (word (codes "advanced") ∷ tree extra ∷ []))

-- the term `[]`
abbrev pub empty_list : Term
empty_list = ListOf none

-- Instructions

abbrev pub Name : Type 0
Name = List ℕ

abbrev pub Names : Type 0
Names = List (List ℕ)

-- on a module, with the modules that it depends on
abbrev pub on : Name → ModuleWork → Names → High
on m work ms = Module (record { name = m; work = work; dependencies = ms })

-- on an application
abbrev pub onto : Name → ApplicationWork → High
onto a work = Application (record { name = a; work = work })

-- a term that is written in one of the forms of an instruction
pub data IsHigh (t : Tree) (h : High) : Type 0 where
  -- `{update,Mod,..}`
  update : (m : Name) → t ≡ form (codes "update") (atom m ∷ []) →
      h ≡ on m (Update Dynamic Default Soft Brutal Brutal) [] → IsHigh t h
  update_by : (m : Name) (change : Change) → t ≡ form (codes "update") (atom m ∷ change_tree change ∷ []) →
      h ≡ on m (Update Dynamic Default change Brutal Brutal) [] → IsHigh t h
  update_behind : (m : Name) (ms : Names) → t ≡ form (codes "update") (atom m ∷ names_tree ms ∷ []) →
      h ≡ on m (Update Dynamic Default Soft Brutal Brutal) ms → IsHigh t h
  update_by_behind : (m : Name) (change : Change) (ms : Names) →
      t ≡ form (codes "update") (atom m ∷ change_tree change ∷ names_tree ms ∷ []) →
      h ≡ on m (Update Dynamic Default change Brutal Brutal) ms → IsHigh t h
  update_purging : (m : Name) (change : Change) (pre post : Purge) (ms : Names) →
      t ≡ form (codes "update") (atom m ∷ change_tree change ∷ purge_tree pre ∷ purge_tree post ∷ names_tree ms ∷ []) →
      h ≡ on m (Update Dynamic Default change pre post) ms → IsHigh t h
  update_timed : (m : Name) (timeout : Timeout) (change : Change) (pre post : Purge) (ms : Names) →
      t ≡ form (codes "update") (atom m ∷ timeout_tree timeout ∷ change_tree change ∷ purge_tree pre ∷ purge_tree post ∷
      names_tree ms ∷ []) → h ≡ on m (Update Dynamic timeout change pre post) ms → IsHigh t h
  update_whole : (m : Name) (type : ModuleType) (timeout : Timeout) (change : Change) (pre post : Purge) (ms : Names) →
      t ≡ form (codes "update") (atom m ∷ module_type_tree type ∷ timeout_tree timeout ∷ change_tree change ∷
      purge_tree pre ∷ purge_tree post ∷ names_tree ms ∷ []) → h ≡ on m (Update type timeout change pre post) ms → IsHigh t h
  -- `{update,Mod,supervisor}`, where a supervisor's `init` changes: it stands for
  -- `{update,Mod,static,default,{advanced,[]},brutal_purge,brutal_purge,[]}`, as which systools translates it
  update_supervisor : (m : Name) → t ≡ form (codes "update") (atom m ∷ word (codes "supervisor") ∷ []) →
      h ≡ on m (Update Static Default (Advanced empty_list) Brutal Brutal) [] → IsHigh t h
  -- `{load_module,Mod,..}`
  load : (m : Name) → t ≡ form (codes "load_module") (atom m ∷ []) → h ≡ on m (Load Brutal Brutal) [] → IsHigh t h
  load_behind : (m : Name) (ms : Names) → t ≡ form (codes "load_module") (atom m ∷ names_tree ms ∷ []) →
      h ≡ on m (Load Brutal Brutal) ms → IsHigh t h
  load_purging : (m : Name) (pre post : Purge) (ms : Names) →
      t ≡ form (codes "load_module") (atom m ∷ purge_tree pre ∷ purge_tree post ∷ names_tree ms ∷ []) →
      h ≡ on m (Load pre post) ms → IsHigh t h
  -- `{add_module,Mod,..}`, `{delete_module,Mod,..}`
  add : (m : Name) → t ≡ form (codes "add_module") (atom m ∷ []) → h ≡ on m Add [] → IsHigh t h
  add_behind : (m : Name) (ms : Names) → t ≡ form (codes "add_module") (atom m ∷ names_tree ms ∷ []) →
      h ≡ on m Add ms → IsHigh t h
  delete : (m : Name) → t ≡ form (codes "delete_module") (atom m ∷ []) → h ≡ on m Delete [] → IsHigh t h
  delete_behind : (m : Name) (ms : Names) → t ≡ form (codes "delete_module") (atom m ∷ names_tree ms ∷ []) →
      h ≡ on m Delete ms → IsHigh t h
  -- `{add_application,App,..}`, `{remove_application,App}`, `{restart_application,App}`
  add_application : (a : Name) → t ≡ form (codes "add_application") (atom a ∷ []) → h ≡ onto a (works.Add Permanent) → IsHigh t h
  add_typed : (a : Name) (type : StartType) → t ≡ form (codes "add_application") (atom a ∷ start_type_tree type ∷ []) →
      h ≡ onto a (works.Add type) → IsHigh t h
  remove : (a : Name) → t ≡ form (codes "remove_application") (atom a ∷ []) → h ≡ onto a works.Remove → IsHigh t h
  restart : (a : Name) → t ≡ form (codes "restart_application") (atom a ∷ []) → h ≡ onto a works.Restart → IsHigh t h
