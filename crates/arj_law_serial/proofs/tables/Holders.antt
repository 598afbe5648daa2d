-- Holders have in a journal the paths that they have at nodes.
use Rattle.arj_law_parts.proofs.Words
use Words.{◌≡◌, ◌≢◌, ◌⊎◌, ◌≤◌, ◌∙◌, ◌++◌, ◌+◌, ℕ, List, [], ◌∷◌, Bool, true, false, cond, length, take, Option, Some, None, ap, arith, inl}
use Words.{inr, refl, subst, sym, ⊎_elim, map-append, length-append, take-append-le, bytes_eq, front, is_on, last_uid, uid_other, uid_same}
use Words.{uid_eq, In, in_from, in_to, Kind, Uid, tops_of, uids_of, top_of, top_path, FitsPath, is_serial}
use Words.kind
use Rattle.arj_law_serial.proofs.Terms
use Terms.{Act, path, path_in, uids, upwards, path_by, Action, AreBegun, IsNew, act_of, on_own, path_some, serial_alone}
use Terms.{AreAlike, holders_in}
use Rattle.arj_law_parts.proofs.parts.Begun.{front_more, whole_top}
use Rattle.arj_law_parts.specs.parts.Actions.{Stands}
use Rattle.arj_model.specs.Actions.{tops_in}

never : {P : Type 0} (b : Bool) → b ≡ true → b ≡ false → P
never b holds fails = let no_way : true ≡ false = sym holds ∙ fails in cc

-- ---- the path of a Uid

-- a later action hides none that was begun before
older : (c : Action) (begun : List Action) (b : Act) (xs : List Act) → b.uid ≡ act_of c → IsNew (act_of c) begun → (d : Action) →
    In d begun → path_by (b ∷ xs) (act_of d) ≡ path_by xs (act_of d)
older c begun b xs same new d i = λ j. cond (other j) (path_in xs b) (path_by xs (act_of d))
  where
    other : uid_eq b.uid (act_of d) ≡ false
    other = ap (λ u. uid_eq u (act_of d)) same ∙ uid_other (act_of c) (act_of d)
        (λ e. never (is_on (uids_of d.path) (act_of c)) (ap (is_on (uids_of d.path)) e ∙ on_own d.path) (new d (in_to d begun i)))

newest : (c : Action) (b : Act) (xs : List Act) → b.uid ≡ act_of c → path_by (b ∷ xs) (act_of c) ≡ path_in xs b
newest c b xs same = λ j. cond (here j) (path_in xs b) (path_by xs (act_of c))
  where
    here : uid_eq b.uid (act_of c) ≡ true
    here = ap (λ u. uid_eq u (act_of c)) same ∙ uid_same (act_of c)

-- what a label names is the path of a Uid
labelled : (begun : List Action) (xs : List Act) → AreBegun begun → AreAlike begun xs → (p : List ℕ) →
    (path xs p ≡ []) ⊎ ((d : Action) × In d begun × (path xs p ≡ path_by xs (act_of d)))
labelled [] [] all alike p = inl refl
labelled [] (x ∷ xs) all alike p = absurd alike
labelled (c ∷ begun) [] all alike p = absurd alike
labelled (c ∷ begun) (b ∷ xs) all alike p = by (bytes_eq b.label p) (labelled begun xs all.1 alike.3 p)
  where
    by : (e : Bool) → (path xs p ≡ []) ⊎ ((d : Action) × In d begun × (path xs p ≡ path_by xs (act_of d))) → (cond e (path_in xs b)
        (path xs p) ≡ []) ⊎ ((d : Action) × In d (c ∷ begun) × (cond e (path_in xs b) (path xs p) ≡ path_by (b ∷ xs) (act_of d)))
    by true ih = inr (c, inl refl, sym (newest c b xs alike.0))
    by false (inl none) = inl none
    by false (inr (d, i, is)) = inr (d, inr i, is ∙ sym (older c begun b xs alike.0 all.0.new d i))

-- ---- how many lead to the top

single : (q : List Act) (u : Uid) → uids q ≡ u ∷ [] → tops_in q ≡ 1
single [] u is = absurd (cc is)
single (a ∷ []) u is = refl
single (a ∷ b ∷ rest) u is = absurd (cc is)

-- the first of two numbers for an empty list, or the other
abbrev if_none : List Act → ℕ → ℕ → ℕ
if_none [] m n = m
if_none (a ∷ rest) m n = n

-- one more below a path
below : (front : List Act) (s b : Act) →
    tops_in ((front ++ s ∷ []) ++ b ∷ []) ≡ if_none front (cond (is_serial s.kind) 2 1) (tops_in (front ++ s ∷ []))
below [] s b = refl
below (a ∷ []) s b = refl
below (a ∷ c ∷ rest) s b = refl

-- an action's path in a journal: its Uids, its top, and it itself at the end
record IsPathed (xs : List Act) (a : Action) : Type 0 where
  own : uids (path_by xs (act_of a)) ≡ uids_of a.path
  tops : tops_in (path_by xs (act_of a)) ≡ tops_of a.path
  front : List Act
  itself : Act
  ends : path_by xs (act_of a) ≡ front ++ itself ∷ []
  kind_is : itself.kind ≡ a.kind

pathed_later : (c : Action) (begun : List Action) (b : Act) (xs : List Act) → b.uid ≡ act_of c → IsNew (act_of c) begun → (d : Action) →
    In d begun → IsPathed xs d → IsPathed (b ∷ xs) d
pathed_later c begun b xs same new d i h =
    let o = older c begun b xs same new d i in
    record {
      own = ap uids o ∙ h.own;
      tops = ap tops_in o ∙ h.tops;
      front = h.front;
      itself = h.itself;
      ends = o ∙ h.ends;
      kind_is = h.kind_is;
    }

module _ (c : Action) (begun : List Action) (b : Act) (xs : List Act) (all : AreBegun begun) (alike : AreAlike begun xs)
    (kinds : b.kind ≡ c.kind) (its : uids (path_in xs b) ≡ uids_of c.path) (ih : (d : Action) → In d begun → IsPathed xs d) where
  abbrev up : List Act
  up = upwards b.parent b.kind (path xs)

  -- what stands above it is one action's path
  above : (d : Action) → In d begun → uids_of c.path ≡ uids_of d.path ++ act_of c ∷ [] → up ≡ path_by xs (act_of d)
  above d i is = by b.parent b.kind refl
    where
      uids_up : uids up ≡ uids_of d.path
      uids_up = sym (front_more (uids up) b.uid) ∙ ap front (sym (map-append (λ (x : Act). x.uid) up (b ∷ [])) ∙ its ∙ is)
          ∙ front_more (uids_of d.path) (act_of c)

      none : {X : Type 0} → up ≡ [] → X
      none empty = let l : length (uids_of d.path) ≡ 0 = ap length (sym uids_up) ∙ ap (λ z. length (uids z)) empty in
          absurd (omega (arith, l, path_some d.path))

      found : (p : List ℕ) → up ≡ path xs p → up ≡ path_by xs (act_of d)
      found p same = ⊎_elim (λ empty. none (same ∙ empty)) (λ (r : (e : Action) × In e begun × (path xs p ≡ path_by xs (act_of e))).
          let h = ih r.0 r.1 in
          let one : act_of r.0 ≡ act_of d = ap last_uid (sym h.own ∙ ap uids (sym r.2) ∙ ap uids (sym same) ∙ uids_up) in
          same ∙ r.2 ∙ ap (path_by xs) one) (labelled begun xs all alike p)

      by : (p : Option (List ℕ)) (k : Kind) → upwards p k (path xs) ≡ up → up ≡ path_by xs (act_of d)
      by None k is = none (sym is)
      by (Some p) kind.Independent is = none (sym is)
      by (Some p) kind.Top is = found p (sym is)
      by (Some p) kind.Serial is = found p (sym is)
      by (Some p) kind.Nested is = found p (sym is)
      by (Some p) kind.Constituent is = found p (sym is)

  serial_not : (k : Kind) → k ≢ kind.Serial → is_serial k ≡ false
  serial_not kind.Serial other = absurd (other refl)
  serial_not kind.Top other = refl
  serial_not kind.Nested other = refl
  serial_not kind.Constituent other = refl
  serial_not kind.Independent other = refl

  its_tops : Stands begun c c.kind → tops_in (path_in xs b) ≡ tops_of c.path
  its_tops stands = by c.kind stands
    where
      by : (k : Kind) → Stands begun c k → tops_in (path_in xs b) ≡ tops_of c.path
      by kind.Top s = single (path_in xs b) (act_of c) (its ∙ s.0) ∙ sym s.1
      by kind.Serial s = single (path_in xs b) (act_of c) (its ∙ s.0) ∙ sym s.1
      by kind.Independent s = single (path_in xs b) (act_of c) (its ∙ s.0) ∙ sym s.1
      by kind.Nested s =
          let i = in_from s.0 begun s.1 in
          let h = ih s.0 i in
          let same = above s.0 i s.3 ∙ h.ends in
          ap (λ z. tops_in (z ++ b ∷ [])) same ∙ below h.front h.itself b
          ∙ nested s.0 h.front h.itself (h.kind_is) s.2 (ap tops_in (sym h.ends) ∙ h.tops) ∙ sym s.4
        where
          nested : (d : Action) (front : List Act) (i : Act) → i.kind ≡ d.kind → d.kind ≢ kind.Serial → tops_in (front ++ i ∷ [])
              ≡ tops_of d.path → if_none front (cond (is_serial i.kind) 2 1) (tops_in (front ++ i ∷ [])) ≡ tops_of d.path
          nested d [] i is other tops = ap (λ z. cond z 2 1) (ap is_serial is ∙ serial_not d.kind other) ∙ tops
          nested d (a ∷ rest) i is other tops = tops
      by kind.Constituent s =
          let i = in_from s.0 begun s.1 in
          let h = ih s.0 i in
          let same = above s.0 i s.3 ∙ h.ends in
          ap (λ z. tops_in (z ++ b ∷ [])) same ∙ below h.front h.itself b ∙ owned h.front h.itself (act_of s.0) (h.kind_is ∙ s.2)
          (ap uids (sym h.ends) ∙ h.own ∙ (serial_alone begun all s.0 i s.2).0) ∙ sym s.4
        where
          owned : (front : List Act) (i : Act) (u : Uid) → i.kind ≡ kind.Serial → uids (front ++ i ∷ []) ≡ u ∷ [] →
              if_none front (cond (is_serial i.kind) 2 1) (tops_in (front ++ i ∷ [])) ≡ 2
          owned [] i u is one = ap (λ z. cond z 2 1) (ap is_serial is)
          owned (a ∷ []) i u is one = absurd (cc one)
          owned (a ∷ c ∷ rest) i u is one = absurd (cc one)

pathed : (begun : List Action) (xs : List Act) → AreBegun begun → AreAlike begun xs → (a : Action) → In a begun → IsPathed xs a
pathed [] xs all alike a i = absurd i
pathed (c ∷ begun) [] all alike a i = absurd alike
pathed (c ∷ begun) (b ∷ xs) all alike a i = by (pathed begun xs all.1 alike.3) i
  where
    by : ((d : Action) → In d begun → IsPathed xs d) → In a (c ∷ begun) → IsPathed (b ∷ xs) a
    by ih (inl same) = subst (IsPathed (b ∷ xs)) same (record {
      own = ap uids (newest c b xs alike.0) ∙ alike.2;
      tops = ap tops_in (newest c b xs alike.0) ∙ its_tops c begun b xs all.1 alike.3 alike.1 alike.2 ih all.0.stands;
      front = upwards b.parent b.kind (path xs);
      itself = b;
      ends = newest c b xs alike.0;
      kind_is = alike.1;
    })
    by ih (inr j) = pathed_later c begun b xs alike.0 all.0.new a j (ih a j)

-- ---- an action's top

record HasTop (acts : List Action) (a : Action) : Type 0 where
  top : Action
  there : In top acts
  path : uids_of top.path ≡ top_path a.path
  tops : tops_of top.path ≡ tops_of a.path
  most : tops_of a.path ≤ length (uids_of a.path)

with_top : (begun : List Action) → AreBegun begun → (a : Action) → In a begun → HasTop begun a
with_top [] all a i = absurd i
with_top (c ∷ begun) all a (inr i) = let h = with_top begun all.1 a i in
    record { top = h.top; there = inr h.there; path = h.path; tops = h.tops; most = h.most }
with_top (c ∷ begun) all a (inl same) = subst (HasTop (c ∷ begun)) same (by c.kind all.0.stands (with_top begun all.1))
  where
    alone : (uids_of c.path ≡ act_of c ∷ []) × (tops_of c.path ≡ 1) → HasTop (c ∷ begun) c
    alone s = record {
      top = c;
      there = inl refl;
      path = sym (whole_top c.path (act_of c ∷ []) s.0 s.1);
      tops = refl;
      most = let l : length (uids_of c.path) ≡ 1 = ap length s.0 in omega (arith, s.1, l);
    }

    by : (k : Kind) → Stands begun c k → ((d : Action) → In d begun → HasTop begun d) → HasTop (c ∷ begun) c
    by kind.Top s ih = alone s
    by kind.Serial s ih = alone s
    by kind.Independent s ih = alone s
    by kind.Nested s ih =
        let h = ih s.0 (in_from s.0 begun s.1) in
        let less : tops_of c.path ≤ length (uids_of (let d = s.0 in d.path)) = subst (λ z. z ≤ length (uids_of (let d = s.0 in d.path)))
        (sym s.4) h.most in
        let l : length (uids_of c.path) ≡ length (uids_of (let d = s.0 in d.path)) + 1 = ap length s.3
        ∙ length-append (uids_of (let d = s.0 in d.path)) (act_of c ∷ []) in
        record {
          top = h.top;
          there = inr h.there;
          path = h.path ∙ ap (λ z. take z (uids_of (let d = s.0 in d.path))) (sym s.4) ∙ sym
              (ap (take (tops_of c.path)) s.3 ∙ take-append-le (tops_of c.path) (uids_of (let d = s.0 in d.path)) (act_of c ∷ []) less);
          tops = h.tops ∙ sym s.4;
          most = omega (arith, less, l);
        }
    by kind.Constituent s ih =
        let d = s.0 in
        let one = (serial_alone begun all.1 d (in_from d begun s.1) s.2).0 in
        let is : uids_of c.path ≡ act_of d ∷ act_of c ∷ [] = s.3 ∙ ap (λ us. us ++ act_of c ∷ []) one in
        record {
          top = c;
          there = inl refl;
          path = sym (whole_top c.path (act_of d ∷ act_of c ∷ []) is s.4);
          tops = refl;
          most = let l : length (uids_of c.path) ≡ 2 = ap length is in omega (arith, s.4, l);
        }

-- ---- what rows say of holders

pub path_fits : (begun : List Action) (xs : List Act) → AreBegun begun → AreAlike begun xs → (a : Action) → In a begun →
    FitsPath (holders_in false xs) a.path
path_fits begun xs all alike a i =
    let h = pathed begun xs all alike a i in
    let t = with_top begun all a i in
    let g = pathed begun xs all alike t.top t.there in
    let same : act_of t.top ≡ top_of a.path = ap last_uid t.path in
    record {
      actor_is = record { path_is = h.own; tops_are = h.tops };
      top_is = record {
        path_is = ap (λ u. uids (path_by xs u)) (sym same) ∙ g.own ∙ t.path;
        tops_are = ap (λ u. tops_in (path_by xs u)) (sym same) ∙ g.tops ∙ t.tops;
      };
    }
