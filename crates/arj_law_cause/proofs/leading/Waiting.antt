-- Of how many actions of a node something waits there: of no more than the journal has waiting, of that node.
use Rattle.arj_law_parts.proofs.Words
use Words.{◌≡◌, ◌≤◌, ◌<◌, ◌∙◌, ◌+◌, ◌==◌, ◌&&◌, ℕ, zero, suc, Bool, true, false, cond, List, [], ◌∷◌, filter, length, refl, sym, ap}
use Words.{arith}
use Words.{slice_get, AllByRecursion, Some, None, Less, Equal, in_to}
use Words.{Doing, Header, Node, Parts, Uid, World, at_place, doing_of, is_own, is_waiting_now, see, uid_at, uid_order}
use Rattle.std.specs.Cmp.{nat_cmp_is}
use Rattle.std.specs.Ordering.{ordering_then}
use Rattle.arj_promise.specs.Runs.{HeaderFits}
use Rattle.arj_law_parts.specs.moves.Keeps.{Holds}
use Rattle.arj_law_parts.specs.parts.Objects.{AreAbove, AreSorted}
use Rattle.arj_law_runs.proofs.Terms.{Act, acts}
use Rattle.arj_law_runs.proofs.kept.Walked.{same_number}
use Rattle.arj_law_cause.proofs.leading.Counts.{at_work, of_node}
use Rattle.arj_law_cause.proofs.leading.Settles.{KnownUp}
use Rattle.arj_law_cause.proofs.quiesces.Ties as ties
use Rattle.arj_law_cause.proofs.sending.Begun.{IsOneOf, is_in, no_more, up_here}
use Rattle.arj_law_cause.proofs.told.Joined as joined
use Rattle.arj_model.specs.Past.{Past}
use Rattle.arj_model.specs.Refusals.{is_waiting}

-- the actions that wait by the journal
abbrev pub who_wait : Past → List Act
who_wait p = filter (λ (a : Act). is_waiting p a.label) (acts p.lines)

-- ---- by their numbers

-- the Uid of the action of this number
abbrev uid_of : ℕ → ℕ → ℕ → Uid
uid_of node inc j = record { node = node; inc = inc; num = j }

-- those at work, from this number on
abbrev keys : ℕ → ℕ → ℕ → List Doing → List (Uid × ℕ)
keys node inc j [] = []
keys node inc j (d ∷ ds) = cond (is_waiting_now d.now) ((uid_of node inc j, 0) ∷ keys node inc (suc j) ds) (keys node inc (suc j) ds)

keys_long : (node inc j : ℕ) (ds : List Doing) → length (keys node inc j ds) ≡ length (at_work ds)
keys_long node inc j [] = refl
keys_long node inc j (d ∷ ds) = by (is_waiting_now d.now) (keys_long node inc (suc j) ds)
  where
    by : (b : Bool) → length (keys node inc (suc j) ds) ≡ length (at_work ds) →
        length (cond b ((uid_of node inc j, 0) ∷ keys node inc (suc j) ds) (keys node inc (suc j) ds))
        ≡ length (cond b (d ∷ at_work ds) (at_work ds))
    by true ih = ap suc ih
    by false ih = ih

less_uid : (node inc i j : ℕ) → i < j → uid_order (uid_of node inc i) (uid_of node inc j) ≡ Less
less_uid node inc i j less =
    (λ k. ordering_then (sym (nat_cmp_is node node Equal refl) k) (ordering_then (sym (nat_cmp_is inc inc Equal refl) k)
    (sym (nat_cmp_is i j Less less) k)))

keys_above : (node inc i j : ℕ) (ds : List Doing) → i < j → AreAbove (uid_of node inc i) (keys node inc j ds)
keys_above node inc i j [] less = tt
keys_above node inc i j (d ∷ ds) less = by (is_waiting_now d.now) (keys_above node inc i (suc j) ds (further less))
  where
    further : i < j → i < suc j
    further less = omega (arith, less)

    by : (b : Bool) → AreAbove (uid_of node inc i) (keys node inc (suc j) ds) →
        AreAbove (uid_of node inc i) (cond b ((uid_of node inc j, 0) ∷ keys node inc (suc j) ds) (keys node inc (suc j) ds))
    by true ih = (less_uid node inc i j less, ih)
    by false ih = ih

keys_sorted : (node inc j : ℕ) (ds : List Doing) → AreSorted (keys node inc j ds)
keys_sorted node inc j [] = tt
keys_sorted node inc j (d ∷ ds) = by (is_waiting_now d.now) (keys_sorted node inc (suc j) ds)
  where
    next : (j : ℕ) → j < suc j
    next j = omega arith

    by : (b : Bool) → AreSorted (keys node inc (suc j) ds) →
        AreSorted (cond b ((uid_of node inc j, 0) ∷ keys node inc (suc j) ds) (keys node inc (suc j) ds))
    by true ih = (keys_above node inc j (suc j) ds (next j), ih)
    by false ih = ih

-- what is found of each that is at work
keys_all : (P : Uid → Type 0) (node inc j : ℕ) (ds : List Doing) → ((i : ℕ) (d : Doing) → slice_get ds i ≡ Some d →
    is_waiting_now d.now ≡ true → (k : ℕ) → k ≡ i + j → P (uid_of node inc k)) →
    AllByRecursion (λ (e : Uid × ℕ). P e.0) (keys node inc j ds)
keys_all P node inc j [] found = tt
keys_all P node inc j (d ∷ ds) found = by (is_waiting_now d.now) refl (keys_all P node inc (suc j) ds
    (λ i e at on k same. found (suc i) e at on k (same ∙ later i j)))
  where
    later : (i j : ℕ) → i + suc j ≡ suc i + j
    later i j = omega arith

    here : (j : ℕ) → j ≡ 0 + j
    here j = omega arith

    by : (b : Bool) → is_waiting_now d.now ≡ b → AllByRecursion (λ (e : Uid × ℕ). P e.0) (keys node inc (suc j) ds) →
        AllByRecursion (λ (e : Uid × ℕ). P e.0) (cond b ((uid_of node inc j, 0) ∷ keys node inc (suc j) ds) (keys node inc (suc j) ds))
    by true on ih = (found zero d refl on j (here j), ih)
    by false off ih = ih

-- ---- at a node

module _ (hd : Header) (form : HeaderFits hd) (p : Past) (w : World) (s : joined.Inv hd form p w) (h : Holds hd KnownUp w) where
  pub few_wait : (k : ℕ) (x : Node) → at_place k w.nodes ≡ Some x → (t : Parts) → x.live ≡ Some t →
      length (at_work t.coord.doings) ≤ of_node k (who_wait p)
  few_wait k x there t live = same (length (keys node inc 1 t.coord.doings)) (length (at_work t.coord.doings)) (of_node k (who_wait p))
      (keys_long node inc 1 t.coord.doings)
      (no_more {A = Act} (λ (a : Act). a.uid) (keys node inc 1 t.coord.doings)
      (filter (λ (a : Act). (let u = a.uid in u.node) == k) (who_wait p)) (keys_sorted node inc 1 t.coord.doings)
      (keys_all (IsOneOf (λ (a : Act). a.uid) (filter (λ (a : Act). (let u = a.uid in u.node) == k) (who_wait p))) node inc 1 t.coord.doings
      found))
    where
      node : ℕ
      node = t.coord.tree.node

      inc : ℕ
      inc = t.coord.tree.inc

      same : (a b c : ℕ) → a ≡ b → a ≤ c → b ≤ c
      same a b c is le = omega (arith, is, le)

      next : (i : ℕ) → i + 1 ≡ suc i
      next i = omega arith

      home : node ≡ k
      home = let u = up_here hd (see h.sent w) (let z = h.holds in z.0) k x there t live in u.node

      itself : (k == k) ≡ true
      itself = same_number k

      found : (i : ℕ) (d : Doing) → slice_get t.coord.doings i ≡ Some d → is_waiting_now d.now ≡ true → (j : ℕ) → j ≡ i + 1 →
          IsOneOf (λ (a : Act). a.uid) (filter (λ (a : Act). (let u = a.uid in u.node) == k) (who_wait p)) (uid_of node inc j)
      found i d at on j is =
          let u = uid_at (suc i) t.coord in
          let own : is_own u t.coord.tree ≡ true = λ z. same_number node z && same_number inc z in
          let does : doing_of u t.coord ≡ Some d = (λ z. cond (own z) (at_place (suc i) t.coord.doings) None) ∙ at in
          let a = ties.its_act hd form p w s k x t u d there live does in
          let waits = ap (is_waiting p) a.2 ∙ ties.waits_so hd form p w s k x t u d there live does on in
          let inside = is_in (λ (b : Act). b.uid) (λ (b : Act). is_waiting p b.label) a.0 (acts p.lines) a.1 waits in (
            a.0,
            in_to a.0 (filter (λ (b : Act). (let v = b.uid in v.node) == k) (who_wait p)) (is_in (λ (b : Act). b.uid)
                (λ (b : Act). (let v = b.uid in v.node) == k) a.0 (who_wait p) inside
                (ap (λ (v : Uid). v.node == k) a.3 ∙ ap (λ z. z == k) home ∙ itself)),
            a.3 ∙ ap (uid_of node inc) (sym (is ∙ next i)),
          )
