-- The laws of open calls in order, and of indexes.
use Rattle.std.specs.Prelude.{◌≡◌, Bool, true, false, if◌then◌else◌, List, Option}
use Rattle.std.specs.declared.cmp.Ordering.{Ordering}
use Rattle.std.specs.FinMap.{FinMap, get}
use Rattle.process_index.specs.declared.calls.Call.{Call}
use Rattle.process_index.specs.Calls.{AreInOrder, has, with_call, without}
use Rattle.process_index.specs.Index.{put}

-- calls in order are told by which calls they are
abbrev pub CallsAreOne : Type 0
CallsAreOne =
    (cs ds : List Call) → AreInOrder cs → AreInOrder ds → ((c : Call) → has c cs ≡ has c ds) → cs ≡ ds

-- a call that was put in is taken back by taking it out, and the other way round
abbrev pub CallsComeBack : Type 0
CallsComeBack =
    (c : Call) (cs : List Call) → AreInOrder cs → (has c cs ≡ false → without c (with_call c cs) ≡ cs) ×
    (has c cs ≡ true → with_call c (without c cs) ≡ cs)

-- Indexes by an order of keys, with the test of which keys are one: under each key there is what was put there last, two
-- indexes that have the same under each key are one, of two changes under a key the later counts, and what was there
-- before takes a change back.
pub record AreIndexes {K : Type 0} (R : K → K → Ordering) (test : K → K → Bool) (X : Type 0) : Type 0 where
  pub read : (m : FinMap R X) (k : K) (v : Option X) (q : K) → get (put k v m) q ≡ (if test k q then v else get m q)
  pub one : (m n : FinMap R X) → ((k : K) → get m k ≡ get n k) → m ≡ n
  pub later : (m : FinMap R X) (k : K) (v w : Option X) → put k v (put k w m) ≡ put k v m
  pub back : (m : FinMap R X) (k : K) (v : Option X) → put k (get m k) (put k v m) ≡ m
