-- What a start function asks for, by the kinds of its arguments.
use Rattle.std.specs.Prelude.{◌≡◌, ℕ, ◌&&◌, if◌then◌else◌, nat_le, List, codes, refl, Option, None, Some}
use Rattle.std.specs.Str.{bytes_eq}
use Rattle.std.proofs.Common.{ap, sym, subst, ◌∙◌}
use Rattle.erl_term.specs.Accessors.{atom_of, pid_of, list_of, one_of, two_of, three_of, four_of}
use Rattle.erl_term.specs.Tree.{Tree, Trees, int, atom, pid, tuple, list, none, more, count}
use Rattle.erl_semantics.specs.State as state
use Rattle.erl_semantics.specs.State.{World, Startup, State, Result, exit_by}
use Rattle.erl_semantics.specs.BuiltIns.{badarg, not_in_profile}
use Rattle.erl_semantics.specs.Starting.{refused, first_start, begin_or_undef, remote_function, spawn_asked, init_asked}
use Rattle.erl_semantics.specs.Starting.{local_name, named_asked, start_link_asked, ignored, failed, initialized, initialized_pair}
use Rattle.erl_semantics.specs.Starting.{register_in, register_asked}
use Rattle.erl_semantics.proofs.Options.{some_none, some_injective}
use Rattle.erl_steps.specs.Tags.{tag_of}
use Rattle.erl_steps.proofs.Tagged.{tagged, one_is, two_is, three_is}

-- what has a kind is of that kind

as_atom : (P : Tree → Type 0) (t : Tree) (cs : List ℕ) → atom_of t ≡ Some cs → P (atom cs) → P t
as_atom P (int n) cs e p = absurd (some_none (sym e))
as_atom P (atom ds) cs e p = subst (λ x. P (atom x)) (sym (some_injective e)) p
as_atom P (pid n) cs e p = absurd (some_none (sym e))
as_atom P (tuple ts) cs e p = absurd (some_none (sym e))
as_atom P (list ts) cs e p = absurd (some_none (sym e))

as_list : (P : Tree → Type 0) (t : Tree) (ts : Trees) → list_of t ≡ Some ts → P (list ts) → P t
as_list P (int n) ts e p = absurd (some_none (sym e))
as_list P (atom ds) ts e p = absurd (some_none (sym e))
as_list P (pid n) ts e p = absurd (some_none (sym e))
as_list P (tuple us) ts e p = absurd (some_none (sym e))
as_list P (list us) ts e p = subst (λ x. P (list x)) (sym (some_injective e)) p

as_pid : (P : Tree → Type 0) (t : Tree) (n : ℕ) → Some n ≡ pid_of t → P (pid n) → P t
as_pid P (int k) n e p = absurd (some_none e)
as_pid P (atom ds) n e p = absurd (some_none e)
as_pid P (pid k) n e p = subst (λ x. P (pid x)) (some_injective e) p
as_pid P (tuple us) n e p = absurd (some_none e)
as_pid P (list us) n e p = absurd (some_none e)

four_is : (ts : Trees) (x y z u : Tree) → four_of ts ≡ Some (x, y, z, u) → more x (more y (more z (more u none))) ≡ ts
four_is none x y z u e = absurd (some_none (sym e))
four_is (more a none) x y z u e = absurd (some_none (sym e))
four_is (more a (more b none)) x y z u e = absurd (some_none (sym e))
four_is (more a (more b (more c none))) x y z u e = absurd (some_none (sym e))
four_is (more a (more b (more c (more d none)))) x y z u e =
    ap (λ p. more p.0 (more p.1 (more p.2 (more p.3 none)))) (sym (some_injective e))
four_is (more a (more b (more c (more d (more d' ts))))) x y z u e = absurd (some_none (sym e))

module _ (w : World) (su : Option Startup) where
  -- `spawn(M,F,Args)`

  pub spawn_three : (ts : Trees) (x y z : Tree) (m f : List ℕ) (args : Trees) → three_of ts ≡ Some (x, y, z) →
      atom_of x ≡ Some m → atom_of y ≡ Some f → list_of z ≡ Some args →
      spawn_asked w su ts ≡ first_start su (begin_or_undef None f args (remote_function w m f (count args)))
  spawn_three ts x y z m f args three is_m is_f is_args =
      subst (λ us. spawn_asked w su us ≡ first_start su (begin_or_undef None f args (remote_function w m f (count args))))
      (three_is ts x y z three)
      (as_atom (λ t. spawn_asked w su (more t (more y (more z none))) ≡ first_start su (begin_or_undef None f args (remote_function w m f (count args)))) x m is_m
      (as_atom (λ t. spawn_asked w su (more (atom m) (more t (more z none))) ≡ first_start su (begin_or_undef None f args (remote_function w m f (count args)))) y f is_f
      (as_list (λ t. spawn_asked w su (more (atom m) (more (atom f) (more t none))) ≡ first_start su (begin_or_undef None f args (remote_function w m f (count args)))) z args is_args refl)))

  no_module : (x y z : Tree) → atom_of x ≡ None → spawn_asked w su (more x (more y (more z none))) ≡ refused badarg
  no_module (int n) y z e = refl
  no_module (atom cs) y z e = absurd (some_none e)
  no_module (pid n) y z e = refl
  no_module (tuple ts) y z e = refl
  no_module (list ts) y z e = refl

  pub spawn_no_module : (ts : Trees) (x y z : Tree) → three_of ts ≡ Some (x, y, z) → atom_of x ≡ None →
      spawn_asked w su ts ≡ refused badarg
  spawn_no_module ts x y z three e = subst (λ us. spawn_asked w su us ≡ refused badarg) (three_is ts x y z three) (no_module x y z e)

  no_name : (m : List ℕ) (y z : Tree) → atom_of y ≡ None → spawn_asked w su (more (atom m) (more y (more z none))) ≡ refused badarg
  no_name m (int n) z e = refl
  no_name m (atom cs) z e = absurd (some_none e)
  no_name m (pid n) z e = refl
  no_name m (tuple ts) z e = refl
  no_name m (list ts) z e = refl

  pub spawn_no_name : (ts : Trees) (x y z : Tree) (m : List ℕ) → three_of ts ≡ Some (x, y, z) → atom_of x ≡ Some m → atom_of y ≡ None →
      spawn_asked w su ts ≡ refused badarg
  spawn_no_name ts x y z m three is_m e = subst (λ us. spawn_asked w su us ≡ refused badarg) (three_is ts x y z three)
      (as_atom (λ t. spawn_asked w su (more t (more y (more z none))) ≡ refused badarg) x m is_m (no_name m y z e))

  no_list : (m f : List ℕ) (z : Tree) → list_of z ≡ None → spawn_asked w su (more (atom m) (more (atom f) (more z none))) ≡ refused badarg
  no_list m f (int n) e = refl
  no_list m f (atom cs) e = refl
  no_list m f (pid n) e = refl
  no_list m f (tuple ts) e = refl
  no_list m f (list ts) e = absurd (some_none e)

  pub spawn_no_list : (ts : Trees) (x y z : Tree) (m f : List ℕ) → three_of ts ≡ Some (x, y, z) → atom_of x ≡ Some m →
      atom_of y ≡ Some f → list_of z ≡ None → spawn_asked w su ts ≡ refused badarg
  spawn_no_list ts x y z m f three is_m is_f e = subst (λ us. spawn_asked w su us ≡ refused badarg) (three_is ts x y z three)
      (as_atom (λ t. spawn_asked w su (more t (more y (more z none))) ≡ refused badarg) x m is_m
      (as_atom (λ t. spawn_asked w su (more (atom m) (more t (more z none))) ≡ refused badarg) y f is_f (no_list m f z e)))

  pub spawn_else : (ts : Trees) → three_of ts ≡ None → spawn_asked w su ts ≡ refused (exit_by (codes "undef"))
  spawn_else none e = refl
  spawn_else (more (int a) none) e = refl
  spawn_else (more (atom a) none) e = refl
  spawn_else (more (pid a) none) e = refl
  spawn_else (more (tuple a) none) e = refl
  spawn_else (more (list a) none) e = refl
  spawn_else (more (int a) (more b none)) e = refl
  spawn_else (more (atom a) (more (int b) none)) e = refl
  spawn_else (more (atom a) (more (atom b) none)) e = refl
  spawn_else (more (atom a) (more (pid b) none)) e = refl
  spawn_else (more (atom a) (more (tuple b) none)) e = refl
  spawn_else (more (atom a) (more (list b) none)) e = refl
  spawn_else (more (pid a) (more b none)) e = refl
  spawn_else (more (tuple a) (more b none)) e = refl
  spawn_else (more (list a) (more b none)) e = refl
  spawn_else (more a (more b (more c none))) e = absurd (some_none e)
  spawn_else (more (int a) (more b (more c (more d ts)))) e = refl
  spawn_else (more (pid a) (more b (more c (more d ts)))) e = refl
  spawn_else (more (tuple a) (more b (more c (more d ts)))) e = refl
  spawn_else (more (list a) (more b (more c (more d ts)))) e = refl
  spawn_else (more (atom a) (more (int b) (more c (more d ts)))) e = refl
  spawn_else (more (atom a) (more (pid b) (more c (more d ts)))) e = refl
  spawn_else (more (atom a) (more (tuple b) (more c (more d ts)))) e = refl
  spawn_else (more (atom a) (more (list b) (more c (more d ts)))) e = refl
  spawn_else (more (atom a) (more (atom b) (more (int c) (more d ts)))) e = refl
  spawn_else (more (atom a) (more (atom b) (more (atom c) (more d ts)))) e = refl
  spawn_else (more (atom a) (more (atom b) (more (pid c) (more d ts)))) e = refl
  spawn_else (more (atom a) (more (atom b) (more (tuple c) (more d ts)))) e = refl
  spawn_else (more (atom a) (more (atom b) (more (list c) (more d ts)))) e = refl

  -- `Mod:init(Args)`

  pub init_found : (registered : Option (List ℕ)) (x args y : Tree) (m : List ℕ) (ts : Trees) → atom_of x ≡ Some m → list_of y ≡ Some ts →
      init_asked w su registered x args y ≡
      first_start su (begin_or_undef registered (codes "init") (more args none) (remote_function w m (codes "init") 1))
  init_found registered x args y m ts is_m is_list =
      as_atom (λ t. init_asked w su registered t args y ≡ first_start su (begin_or_undef registered (codes "init") (more args none) (remote_function w m (codes "init") 1))) x m is_m
      (as_list (λ t. init_asked w su registered (atom m) args t ≡ first_start su (begin_or_undef registered (codes "init") (more args none) (remote_function w m (codes "init") 1))) y ts is_list refl)

  pub init_no_module : (registered : Option (List ℕ)) (x args y : Tree) → atom_of x ≡ None → init_asked w su registered x args y ≡ refused badarg
  init_no_module registered (int n) args y e = refl
  init_no_module registered (atom cs) args y e = absurd (some_none e)
  init_no_module registered (pid n) args y e = refl
  init_no_module registered (tuple ts) args y e = refl
  init_no_module registered (list ts) args y e = refl

  no_options : (registered : Option (List ℕ)) (m : List ℕ) (args y : Tree) → list_of y ≡ None → init_asked w su registered (atom m) args y ≡ refused badarg
  no_options registered m args (int n) e = refl
  no_options registered m args (atom cs) e = refl
  no_options registered m args (pid n) e = refl
  no_options registered m args (tuple ts) e = refl
  no_options registered m args (list ts) e = absurd (some_none e)

  pub init_no_options : (registered : Option (List ℕ)) (x args y : Tree) (m : List ℕ) → atom_of x ≡ Some m → list_of y ≡ None →
      init_asked w su registered x args y ≡ refused badarg
  init_no_options registered x args y m is_m e =
      as_atom (λ t. init_asked w su registered t args y ≡ refused badarg) x m is_m (no_options registered m args y e)

  -- `start_link`

  pub link_three : (ts : Trees) (x y z : Tree) → three_of ts ≡ Some (x, y, z) → start_link_asked w su ts ≡ init_asked w su None x y z
  link_three ts x y z three = subst (λ us. start_link_asked w su us ≡ init_asked w su None x y z) (three_is ts x y z three) refl

  link_four : (ts : Trees) (n x y z : Tree) → four_of ts ≡ Some (n, x, y, z) →
      start_link_asked w su ts ≡ named_asked w su (local_name n) x y z
  link_four ts n x y z four = subst (λ us. start_link_asked w su us ≡ named_asked w su (local_name n) x y z) (four_is ts n x y z four) refl

  pub link_named : (ts : Trees) (n x y z : Tree) (name : List ℕ) → four_of ts ≡ Some (n, x, y, z) → Some name ≡ local_name n →
      start_link_asked w su ts ≡ init_asked w su (Some name) x y z
  link_named ts n x y z name four is = link_four ts n x y z four ∙ ap (λ o. named_asked w su o x y z) (sym is)

  pub link_unnamed : (ts : Trees) (n x y z : Tree) → four_of ts ≡ Some (n, x, y, z) → None ≡ local_name n →
      start_link_asked w su ts ≡ refused not_in_profile
  link_unnamed ts n x y z four is = link_four ts n x y z four ∙ ap (λ o. named_asked w su o x y z) (sym is)

  pub link_else : (ts : Trees) → three_of ts ≡ None → four_of ts ≡ None → start_link_asked w su ts ≡ refused (exit_by (codes "undef"))
  link_else none e f = refl
  link_else (more a none) e f = refl
  link_else (more a (more b none)) e f = refl
  link_else (more a (more b (more c none))) e f = absurd (some_none e)
  link_else (more a (more b (more c (more d none)))) e f = absurd (some_none f)
  link_else (more a (more b (more c (more d (more d' ts))))) e f = refl

-- `{local,Name}`

pub local_found : (t : Tree) (cs : List ℕ) (ts : Trees) (x : Tree) (name : List ℕ) → tag_of t ≡ Some (cs, ts) → one_of ts ≡ Some x →
    atom_of x ≡ Some name → local_name t ≡ (if bytes_eq cs (codes "local") then Some name else None)
local_found t cs ts x name e one is_name =
    tagged (λ u. local_name u ≡ (if bytes_eq cs (codes "local") then Some name else None)) t cs ts e
    (subst (λ us. local_name (tuple (more (atom cs) us)) ≡ (if bytes_eq cs (codes "local") then Some name else None)) (one_is ts x one)
    (as_atom (λ u. local_name (tuple (more (atom cs) (more u none))) ≡ (if bytes_eq cs (codes "local") then Some name else None)) x name is_name refl))

no_atom : (cs : List ℕ) (x : Tree) → atom_of x ≡ None → local_name (tuple (more (atom cs) (more x none))) ≡ None
no_atom cs (int n) e = refl
no_atom cs (atom n) e = absurd (some_none e)
no_atom cs (pid n) e = refl
no_atom cs (tuple n) e = refl
no_atom cs (list n) e = refl

pub local_no_atom : (t : Tree) (cs : List ℕ) (ts : Trees) (x : Tree) → tag_of t ≡ Some (cs, ts) → one_of ts ≡ Some x → atom_of x ≡ None →
    local_name t ≡ None
local_no_atom t cs ts x e one other = tagged (λ u. local_name u ≡ None) t cs ts e
    (subst (λ us. local_name (tuple (more (atom cs) us)) ≡ None) (one_is ts x one) (no_atom cs x other))

not_one : (cs : List ℕ) (ts : Trees) → one_of ts ≡ None → local_name (tuple (more (atom cs) ts)) ≡ None
not_one cs none e = refl
not_one cs (more t none) e = absurd (some_none e)
not_one cs (more (int t) (more u ts)) e = refl
not_one cs (more (atom t) (more u ts)) e = refl
not_one cs (more (pid t) (more u ts)) e = refl
not_one cs (more (tuple t) (more u ts)) e = refl
not_one cs (more (list t) (more u ts)) e = refl

pub local_else : (t : Tree) (cs : List ℕ) (ts : Trees) → tag_of t ≡ Some (cs, ts) → one_of ts ≡ None → local_name t ≡ None
local_else t cs ts e other = tagged (λ u. local_name u ≡ None) t cs ts e (not_one cs ts other)

pub local_untagged : (t : Tree) → tag_of t ≡ None → local_name t ≡ None
local_untagged (int n) e = refl
local_untagged (atom n) e = refl
local_untagged (pid n) e = refl
local_untagged (list n) e = refl
local_untagged (tuple none) e = refl
local_untagged (tuple (more (int n) us)) e = refl
local_untagged (tuple (more (pid n) us)) e = refl
local_untagged (tuple (more (tuple n) us)) e = refl
local_untagged (tuple (more (list n) us)) e = refl
local_untagged (tuple (more (atom n) us)) e = absurd (some_none e)

-- the value of `init`

pub init_pair : (t : Tree) (cs : List ℕ) (ts : Trees) (x : Tree) → tag_of t ≡ Some (cs, ts) → one_of ts ≡ Some x →
    initialized t ≡ initialized_pair cs x t
init_pair t cs ts x e one = tagged (λ u. initialized u ≡ initialized_pair cs x u) t cs ts e
    (subst (λ us. initialized (tuple (more (atom cs) us)) ≡ initialized_pair cs x (tuple (more (atom cs) us))) (one_is ts x one) refl)

not_pair : (cs : List ℕ) (ts : Trees) → one_of ts ≡ None →
    initialized (tuple (more (atom cs) ts)) ≡ failed (state.pair (atom (codes "bad_return_value")) (tuple (more (atom cs) ts)))
not_pair cs none e = refl
not_pair cs (more t none) e = absurd (some_none e)
not_pair cs (more t (more u ts)) e = refl

pub init_else : (t : Tree) (cs : List ℕ) (ts : Trees) → tag_of t ≡ Some (cs, ts) → one_of ts ≡ None →
    initialized t ≡ failed (state.pair (atom (codes "bad_return_value")) t)
init_else t cs ts e other = tagged (λ u. initialized u ≡ failed (state.pair (atom (codes "bad_return_value")) u)) t cs ts e (not_pair cs ts other)

pub init_atom : (t : Tree) (cs : List ℕ) → atom_of t ≡ Some cs →
    initialized t ≡ (if bytes_eq cs (codes "ignore") then ignored else failed (state.pair (atom (codes "bad_return_value")) t))
init_atom t cs e = as_atom (λ u. initialized u ≡ (if bytes_eq cs (codes "ignore") then ignored else failed (state.pair (atom (codes "bad_return_value")) u))) t cs e refl

pub init_other : (t : Tree) → tag_of t ≡ None → atom_of t ≡ None → initialized t ≡ failed (state.pair (atom (codes "bad_return_value")) t)
init_other (int n) e f = refl
init_other (atom n) e f = absurd (some_none f)
init_other (pid n) e f = refl
init_other (list n) e f = refl
init_other (tuple none) e f = refl
init_other (tuple (more (int n) us)) e f = refl
init_other (tuple (more (pid n) us)) e f = refl
init_other (tuple (more (tuple n) us)) e f = refl
init_other (tuple (more (list n) us)) e f = refl
init_other (tuple (more (atom n) us)) e f = absurd (some_none e)

-- `register(Name,Pid)`

module _ (w : World) (s : State) where
  pub register_two : (ts : Trees) (x y : Tree) (name : List ℕ) (n : ℕ) → two_of ts ≡ Some (x, y) → atom_of x ≡ Some name → Some n ≡ pid_of y →
      register_asked w ts s ≡ register_in name (nat_le n w.pid && nat_le w.pid n) s.startup s
  register_two ts x y name n two is_name is_pid =
      subst (λ us. register_asked w us s ≡ register_in name (nat_le n w.pid && nat_le w.pid n) s.startup s) (two_is ts x y two)
      (as_atom (λ t. register_asked w (more t (more y none)) s ≡ register_in name (nat_le n w.pid && nat_le w.pid n) s.startup s) x name is_name
      (as_pid (λ t. register_asked w (more (atom name) (more t none)) s ≡ register_in name (nat_le n w.pid && nat_le w.pid n) s.startup s) y n is_pid refl))

  no_atom_name : (x y : Tree) → atom_of x ≡ None → register_asked w (more x (more y none)) s ≡ (badarg, s)
  no_atom_name (int n) y e = refl
  no_atom_name (atom n) y e = absurd (some_none e)
  no_atom_name (pid n) y e = refl
  no_atom_name (tuple n) y e = refl
  no_atom_name (list n) y e = refl

  pub register_no_name : (ts : Trees) (x y : Tree) → two_of ts ≡ Some (x, y) → atom_of x ≡ None → register_asked w ts s ≡ (badarg, s)
  register_no_name ts x y two e = subst (λ us. register_asked w us s ≡ (badarg, s)) (two_is ts x y two) (no_atom_name x y e)

  no_pid : (name : List ℕ) (y : Tree) → None ≡ pid_of y → register_asked w (more (atom name) (more y none)) s ≡ (badarg, s)
  no_pid name (int n) e = refl
  no_pid name (atom n) e = refl
  no_pid name (pid n) e = absurd (some_none (sym e))
  no_pid name (tuple n) e = refl
  no_pid name (list n) e = refl

  pub register_no_pid : (ts : Trees) (x y : Tree) (name : List ℕ) → two_of ts ≡ Some (x, y) → atom_of x ≡ Some name → None ≡ pid_of y →
      register_asked w ts s ≡ (badarg, s)
  register_no_pid ts x y name two is_name e = subst (λ us. register_asked w us s ≡ (badarg, s)) (two_is ts x y two)
      (as_atom (λ t. register_asked w (more t (more y none)) s ≡ (badarg, s)) x name is_name (no_pid name y e))

  pub register_else : (ts : Trees) → two_of ts ≡ None → register_asked w ts s ≡ (exit_by (codes "undef"), s)
  register_else none e = refl
  register_else (more (int t) none) e = refl
  register_else (more (atom t) none) e = refl
  register_else (more (pid t) none) e = refl
  register_else (more (tuple t) none) e = refl
  register_else (more (list t) none) e = refl
  register_else (more t (more u none)) e = absurd (some_none e)
  register_else (more (int t) (more u (more v ts))) e = refl
  register_else (more (pid t) (more u (more v ts))) e = refl
  register_else (more (tuple t) (more u (more v ts))) e = refl
  register_else (more (list t) (more u (more v ts))) e = refl
  register_else (more (atom t) (more (int u) (more v ts))) e = refl
  register_else (more (atom t) (more (atom u) (more v ts))) e = refl
  register_else (more (atom t) (more (pid u) (more v ts))) e = refl
  register_else (more (atom t) (more (tuple u) (more v ts))) e = refl
  register_else (more (atom t) (more (list u) (more v ts))) e = refl
