-- Behind each front of the ends that come to a server: ends alone lead its machine to what the server then has.
use Rattle.arj_law_parts.proofs.Words
use Words.{◌≡◌, ◌≢◌, ◌≤◌, ◌∙◌, ◌==◌, ◌++◌, ℕ, List, [], ◌∷◌, Bool, true, false, cond, Option, Some, None, refl, sym, ap, subst, inl, inr}
use Words.{arith, eqb-true, eq-eqb, Contains, object, in_from, in_to, End, Row, Uid, uids_of, Copy, end_copy, Did, did_nothing}
use Words.{rows_in_copy, server_rows, at_number, binding_number, Server, apply_ends, end_new, end_one, is_told}
use Words.list
use Rattle.arj_law_serial.proofs.Terms
use Terms.{taken_end, Action, AreOrdered, at_each, State, Run, Acts, Codes, OnlyEnds, Goes, SeesRows, SeesObject, AreBrought, IsOfFamily}
use Terms.{Sees, View, brought_go, copy_told, family_told, turn_of}
use Terms.state as machine

ordered_front : (acts : List Action) (before xs ys : List (Uid × End)) → AreOrdered acts before (xs ++ ys) → AreOrdered acts before xs
ordered_front acts before [] ys o = tt
ordered_front acts before (e ∷ xs) ys o = (o.0, ordered_front acts (before ++ e ∷ []) xs ys o.1)

in_front : {X : Type 0} (x : X) (xs ys : List X) → list.In x xs → list.In x (xs ++ ys)
in_front x [] ys i = absurd i
in_front x (z ∷ xs) ys (inl is) = inl is
in_front x (z ∷ xs) ys (inr i) = inr (in_front x xs ys i)

-- no copy comes by ends
pub none_told : (n : ℕ) (ends : List (Uid × End)) (s : Server) (x : ℕ) → at_number x s.objects ≡ None →
    at_number x (let d = apply_ends n ends s in let t = d.part in t.objects) ≡ None
none_told n [] s x none = none
none_told n (e ∷ es) s x none = none_told n es (let d = end_one n e.0 e.1 s in d.part) x (by (is_told e.0 s))
  where
    still : (u : Uid) (how : End) (o : Option Copy) → at_number x (let d = end_new n u how s in let t = d.part in t.objects) ≡ o → o ≡ None
    still u how None is = refl
    still u how (Some c) is = let f = at_each (λ y. end_copy u how) x s.objects c is in
        let no_way : ◌≡◌ {A = Option Copy} None (Some f.0) = sym none ∙ f.1 in absurd (cc no_way)

    by : (b : Bool) → at_number x (let d = cond {A = Did Server} b (did_nothing s) (end_new n e.0 (taken_end e.0 e.1 s) s) in
        let t = d.part in t.objects) ≡ None
    by true = none
    by false =
        still e.0 (taken_end e.0 e.1 s) (at_number x (let d = end_new n e.0 (taken_end e.0 e.1 s) s in let t = d.part in t.objects)) refl

zero_least : (n m : ℕ) → m ≡ 0 → m ≤ n
zero_least n m e = omega (arith, e)

-- what a copy has is what its machine has
pub rows_of_copy : (act : Acts) (code : Codes) (x i : ℕ) (o : Option Copy) (m : machine.Server) (S : State) →
    SeesObject act code x i o m S → SeesRows act (object x) (rows_in_copy o) m.rows
rows_of_copy act code x i None m S has = λ a. zero_least 0 (m.rows a) (has.2 a)
rows_of_copy act code x i (Some c) m S has = let copy = has.0 in copy.rows

-- ---- behind the first of these ends

module _ (v : View) (ends : List (Uid × End)) (s : Server) (S : State) (brought : AreBrought v ends s S) (sees : Sees v s S)
    (pre post : List (Uid × End)) (are : ends ≡ pre ++ post) where
  first_ones : AreBrought v pre s S
  first_ones = record {
    whole = brought.whole;
    server = brought.server;
    ordered =
        ordered_front (let g = v.family in g.begun) [] pre post (subst (AreOrdered (let g = v.family in g.begun) []) are brought.ordered);
    shown = λ w q c fresh. brought.shown w q (in_to {X = Uid × End} (w, q) ends (subst (list.In {X = Uid × End} (w, q)) (sym are)
        (in_front {X = Uid × End} (w, q) pre post (in_from {X = Uid × End} (w, q) pre c)))) fresh;
  }

  pub goes : Goes S (λ T. Sees v (let d = apply_ends v.node pre s in d.part) T × OnlyEnds v.node S T)
  goes = brought_go v pre s S first_ones sees

  abbrev T : State
  T = goes.state

  abbrev mid : Server
  mid = let d = apply_ends v.node pre s in d.part

  abbrev pub front_servers : ℕ → machine.Server
  front_servers = T.server

  only : OnlyEnds v.node S T
  only = let h = goes.holds in h.1

  seen_mid : Sees v mid T
  seen_mid = let h = goes.holds in h.0

  pub front_run : Run S (record S { server = front_servers })
  front_run = subst (λ (U : State). Run S U) only.rest goes.run

  -- which node it is
  by_node : (P : ℕ → Type 0) → P v.node → ((n : ℕ) → n ≢ v.node → P n) → (n : ℕ) → P n
  by_node P here other n = by (n == v.node) refl
    where
      by : (b : Bool) → (n == v.node) ≡ b → P n
      by true is = subst P (sym (eqb-true n v.node is)) here
      by false is = other n (λ same. let no_way : true ≡ false = sym (eq-eqb n v.node same) ∙ is in absurd (cc no_way))

  pub front_others : (n : ℕ) → n ≢ v.node → front_servers n ≡ S.server n
  front_others n other = only.others n other

  pub front_incs : (n : ℕ) → (let a = front_servers n in a.incarnation) ≡ (let b = S.server n in b.incarnation)
  front_incs = by_node (λ n. (let a = front_servers n in a.incarnation) ≡ (let b = S.server n in b.incarnation)) (let k = only.keeps in
      k.incarnation) (λ n other. ap (λ (m : machine.Server). m.incarnation) (front_others n other))

  abbrev number_of : Option Copy → ℕ
  number_of None = 0
  number_of (Some c) = binding_number c.binding

  active_of : (i : ℕ) (o : Option Copy) (m : machine.Server) (U : State) → SeesObject (let g = v.family in g.act) v.code v.x i o m U →
      m.active ≡ number_of o
  active_of i None m U has = has.0
  active_of i (Some c) m U has = let copy = has.0 in copy.active

  same_number : number_of (at_number v.x mid.objects) ≡ number_of (at_number v.x s.objects)
  same_number = by (at_number v.x s.objects) refl
    where
      by : (o : Option Copy) → at_number v.x s.objects ≡ o → number_of (at_number v.x mid.objects) ≡ number_of o
      by None is = ap number_of (none_told v.node pre s v.x is)
      by (Some c) is = let f = copy_told v.node pre s v.x c is in ap number_of f.1 ∙ ap binding_number f.2

  pub front_actives : (n : ℕ) → (let a = front_servers n in a.active) ≡ (let b = S.server n in b.active)
  front_actives = by_node (λ n. (let a = front_servers n in a.active) ≡ (let b = S.server n in b.active))
      (active_of mid.inc (at_number v.x mid.objects) (T.server v.node) T seen_mid.object ∙ same_number
      ∙ sym (active_of s.inc (at_number v.x s.objects) (S.server v.node) S sees.object))
      (λ n other. ap (λ (m : machine.Server). m.active) (front_others n other))

  -- its rows are those of the copy then
  pub front_sees : SeesRows (let g = v.family in g.act) (object v.x) (server_rows v.x mid) (let a = front_servers v.node in a.rows)
  front_sees = rows_of_copy (let g = v.family in g.act) v.code v.x mid.inc (at_number v.x mid.objects) (T.server v.node) T seen_mid.object

  -- by actions that were begun
  pub front_known : (r : Row) → Contains (server_rows v.x mid) r →
      (a : Action) × Contains (let g = v.family in g.begun) a × (r.holder ≡ uids_of a.path)
  front_known r there = by (at_number v.x mid.objects) refl there
    where
      family : IsOfFamily v.family mid
      family = family_told v pre s brought.whole (turn_of v pre s brought.whole brought.server first_ones.ordered) brought.server

      by : (o : Option Copy) → at_number v.x mid.objects ≡ o → Contains (rows_in_copy o) r →
          (a : Action) × Contains (let g = v.family in g.begun) a × (r.holder ≡ uids_of a.path)
      by None is i = absurd (in_from r [] i)
      by (Some c) is i = let known = family.knows in let a = known.rows v.x c r is i in (a.0, a.1, a.2)
