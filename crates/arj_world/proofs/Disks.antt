-- The counts of disks, over one call and over several.
use Rattle.std.proofs.Common.{◌≡◌, ℕ, zero, suc, ◌+◌, ◌-◌, ◌<◌, ◌≤◌, ◌==◌, Bool, true, false, List, [], ◌∷◌, ◌++◌, length, length-append}
use Rattle.std.proofs.Common.{refl, ap, sym, ◌∙◌, subst, Option, Some, None, arith}
use Rattle.std.specs.Prelude.{slice_get, slice_set, Result, Ok, Err, IsErrAnd, OnOk}
use Rattle.std.proofs.lemmas.Bool.{cases_lt}
use Rattle.std.proofs.Math.Logic.{⊎_elim}
use Rattle.std.proofs.lemmas.List.{length-set}
use Rattle.std.proofs.lemmas.List.Elements.{filter_map-append}
use Rattle.arj_base.specs.Count.{Rose}
use Rattle.arj_core.specs.Steps.{CountsStep}
use Rattle.arj_disk.specs.Counted.{counts}
use Rattle.arj_disk.specs.Disk.{Counts, CountsCall}
use Rattle.arj_disk.specs.declared.disk.Disk.{Ghosts}
use Rattle.arj_disk.specs.declared.slot.Outcome.{Outcome}
use Rattle.arj_journal.specs.declared.event.StopKind.{StopKind}
use Rattle.arj_protocol.specs.Words.{Event}
use Rattle.arj_protocol.specs.Words.event
use Rattle.arj_world.specs.Arms.{arm_at, arms_at, last_or, outcome_of}
use Rattle.arj_world.specs.Disks.{HasStopped, HaveMoved, HaveNotStopped, Moves}
use Rattle.arj_world.proofs.Stepping.{is_there}

pub some_one : {A : Type 0} (a b : A) → Some a ≡ Some b → a ≡ b
some_one a b is = cc is

pub within : {A : Type 0} (i : ℕ) (a : A) (items : List A) → slice_get items i ≡ Some a → i < length items
within i a [] at = absurd (cc at)
within zero a (x ∷ xs) at = omega arith
within (suc i) a (x ∷ xs) at = let less : i < length xs = within i a xs at in omega (arith, less)

pub set_other : {A : Type 0} (i j : ℕ) (a : A) (items : List A) → (j ≡ i → ⊥) → slice_get (slice_set items i a) j ≡ slice_get items j
set_other i j a [] h = refl
set_other zero zero a (x ∷ xs) h = absurd (h refl)
set_other zero (suc j) a (x ∷ xs) h = refl
set_other (suc i) zero a (x ∷ xs) h = refl
set_other (suc i) (suc j) a (x ∷ xs) h = set_other i j a xs (λ e. h (ap suc e))

pub set_here : {A : Type 0} (i : ℕ) (a b c : A) (items : List A) → slice_get items i ≡ Some b → slice_get (slice_set items i a) i ≡ Some c →
    a ≡ c
set_here i a b c [] was at = absurd (cc was)
set_here zero a b c (x ∷ xs) was at = cc at
set_here (suc i) a b c (x ∷ xs) was at = set_here i a b c xs was at

set_there : {A : Type 0} (i : ℕ) (a b : A) (items : List A) → slice_get items i ≡ Some b → slice_get (slice_set items i a) i ≡ Some a
set_there i a b [] was = absurd (cc was)
set_there zero a b (x ∷ xs) was = refl
set_there (suc i) a b (x ∷ xs) was = set_there i a b xs was

-- a fault that a call answered is the one that is handed on
pub same_fault : {T E : Type 0} (r : Result T E) (fault stopped : E) → IsErrAnd r (λ e. e ≡ fault) → r ≡ Err stopped → fault ≡ stopped
same_fault (Ok value) fault stopped is e = absurd is
same_fault (Err other) fault stopped is e = cc

pub is_fault : {T E : Type 0} (r : Result T E) (fault : E) → IsErrAnd r (λ e. e ≡ fault) → r ≡ Err fault
is_fault (Ok value) fault is = absurd is
is_fault (Err other) fault is = ap Err is

-- What relates each thing to itself relates the things of a list, and those of one in which one thing has changed.
each_same : {D : Type 0} (R : D → D → Type 0) → ((d : D) → R d d) → (disks : List D) (i : ℕ) (d e : D) → slice_get disks i ≡ Some d →
    slice_get disks i ≡ Some e → R d e
each_same R itself disks i d e at then_at = subst (R d) (some_one d e (sym at ∙ then_at)) (itself d)

-- so it is of relations that go by the place
each_at : {D : Type 0} (R : ℕ → D → D → Type 0) (node : ℕ) → 1 ≤ node → ((i : ℕ) (d : D) → (node == (i + 1)) ≡ false → R i d d) →
    (disks : List D) (d e : D) → slice_get disks (node - 1) ≡ Some d → R (node - 1) d e
    → (i : ℕ) (x y : D) → slice_get disks i ≡ Some x → slice_get (slice_set disks (node - 1) e) i ≡ Some y → R i x y
each_at {D} R node low itself disks d e at moves i x y at_x at_y = by (i == (node - 1)) refl
  where
    by : (b : Bool) → (i == (node - 1)) ≡ b → R i x y
    by true is =
        let same : i ≡ node - 1 = grind (arith, is) in
        let old : d ≡ x = some_one d x (sym at ∙ ap (slice_get disks) (sym same) ∙ at_x) in
        let new : e ≡ y = set_here (node - 1) e d y disks at (ap (slice_get (slice_set disks (node - 1) e)) (sym same) ∙ at_y) in
        subst (λ k. R k x y) (sym same) (subst (λ z. R (node - 1) z y) old (subst (λ z. R (node - 1) d z) new moves))
    by false is =
        let apart : i ≡ node - 1 → ⊥ = λ same. grind (arith, is, same) in
        let stays : x ≡ y = some_one x y (sym at_x ∙ sym (set_other (node - 1) i e disks apart) ∙ at_y) in
        subst (λ z. R i x z) stays (itself i x (grind (arith, is, low)))

-- A call that wasn't stopped leaves the count of stops.
pub same_stops : {T E : Type 0} (old new : Counts) (r : Result T E) (stopped : E) → CountsCall old new r stopped → (r ≡ Err stopped → ⊥) →
    new.stops ≡ old.stops
same_stops old new (Ok value) stopped c none = c.stops.ok
same_stops old new (Err other) stopped c none = c.stops.other (λ is. none (ap Err is))

-- ---- arms

-- arms that came after others
last_append : {A : Type 0} (before : Option A) (some more : List A) → last_or before (some ++ more) ≡ last_or (last_or before some) more
last_append before [] more = refl
last_append before (a ∷ some) more = last_append (Some a) some more

-- an event that asks for no arm
unasked : (n : ℕ) (e : Event) → arm_at n e ≡ None → arms_at n (e ∷ []) ≡ []
unasked n e none = rw none refl

-- one that asks for one
asked_here : (n calls : ℕ) (kind : StopKind) → arms_at n (event.Stop n calls kind ∷ []) ≡ (calls, outcome_of kind) ∷ []
asked_here n calls kind = let same : (n == n) ≡ true = grind arith in rw same refl

asked_there : (n m calls : ℕ) (kind : StopKind) → (m == n) ≡ false → arms_at n (event.Stop m calls kind ∷ []) ≡ []
asked_there n m calls kind apart = rw apart refl

moves_then : (some more : List (ℕ × Outcome)) (a b c : Counts) → Moves some a b → Moves more b c → Moves (some ++ more) a c
moves_then some more a b c x y = record {
  later = omega (arith, x.later, y.later);
  arms = omega (arith, x.arms, y.arms, length-append some more);
  last = y.last ∙ ap (λ o. last_or o more) x.last ∙ sym (last_append a.last_arm some more);
}

module _ {D : Type 0} (disk : Ghosts D) where
  stays : (d : D) → Moves [] (counts disk d) (counts disk d)
  stays d = record { later = omega arith; arms = omega arith; last = refl }

  -- no call at all
  pub moved_none : (nodes : ℕ) (disks : List D) → HaveMoved disk nodes [] disks disks
  moved_none nodes disks =
      record {
        count = refl;
        each = λ i d e less. each_same (λ d e. Moves [] (counts disk d) (counts disk e)) stays disks i d e;
        others =
            λ i past. refl;
      }

  pub unstopped_none : (disks : List D) → HaveNotStopped disk disks disks
  unstopped_none disks = record { count = refl; each = each_same (λ d e. disk.stops e ≡ disk.stops d) (λ d. refl) disks }

  -- one behind the other
  pub moved_then : (n m : ℕ) (some more : List Event) (first second third : List D) → m ≡ n → HaveMoved disk n some first second →
      HaveMoved disk m more second third → HaveMoved disk n (some ++ more) first third
  moved_then n m some more first second third same a b = record {
    count = b.count ∙ a.count;
    each = λ i d e less at_first at_third.
        let k = is_there i second (omega (arith, a.count, within i d first at_first)) in
        subst (λ asked. Moves asked (counts disk d) (counts disk e)) (sym (filter_map-append (arm_at (i + 1)) some more))
        (moves_then (arms_at (i + 1) some) (arms_at (i + 1) more) (counts disk d) (counts disk k.0) (counts disk e) (a.each i d k.0 less at_first k.1) (b.each i k.0 e (omega (arith, less, same)) k.1 at_third));
    others = λ i past. b.others i (omega (arith, past, same)) ∙ a.others i past;
  }

  pub unstopped_on : (first second third : List D) → HaveNotStopped disk first second → HaveNotStopped disk second third →
      HaveNotStopped disk first third
  unstopped_on first second third a b = record {
    count = b.count ∙ a.count;
    each = λ i d e at_first at_third.
        let m = is_there i second (omega (arith, a.count, within i d first at_first)) in
        b.each i m.0 e m.1 at_third ∙ a.each i d m.0 at_first m.1;
  }

  pub moved_on : (n m : ℕ) (first second third : List D) → m ≡ n → HaveMoved disk n [] first second → HaveMoved disk m [] second third →
      HaveMoved disk n [] first third
  moved_on n m first second third same a b = moved_then n m [] [] first second third same a b

  -- no stop of any disk was taken back
  pub moved_later : (nodes : ℕ) (events : List Event) (old new : List D) (i : ℕ) (d e : D) → HaveMoved disk nodes events old new →
      slice_get old i ≡ Some d → slice_get new i ≡ Some e → disk.stops d ≤ disk.stops e
  moved_later nodes events old new i d e moved at then_at =
      ⊎_elim (λ less. let m : Moves (arms_at (i + 1) events) (counts disk d) (counts disk e) =
      moved.each i d e less at then_at in m.later) (λ past. same past) (cases_lt i nodes)
    where
      same : nodes ≤ i → disk.stops d ≤ disk.stops e
      same past = let is : d ≡ e =
          some_one d e (sym at ∙ (sym (moved.others i past) ∙ then_at)) in subst (λ x. disk.stops d ≤ disk.stops x) is (omega arith)

  -- the disk of one of the nodes has moved
  moved_at : (nodes node : ℕ) (events : List Event) (disks : List D) (d e : D) → 1 ≤ node → node ≤ nodes →
      slice_get disks (node - 1) ≡ Some d
      → ((n : ℕ) → (node == n) ≡ false → arms_at n events ≡ []) → Moves (arms_at node events) (counts disk d) (counts disk e) →
      HaveMoved disk nodes events disks (slice_set disks (node - 1) e)
  moved_at nodes node events disks d e low high at none moves = record {
    count = length-set disks (node - 1) e;
    each = λ i x y less. each_at (λ k a b. Moves (arms_at (k + 1) events) (counts disk a) (counts disk b)) node low
        (λ k a apart. subst (λ asked. Moves asked (counts disk a) (counts disk a)) (sym (none (k + 1) apart)) (stays a)) disks d e at
        (subst (λ k. Moves (arms_at k events) (counts disk d) (counts disk e)) (omega (arith, low)) moves) i x y;
    others = λ i past. set_other (node - 1) i e disks (λ is. omega (arith, is, past, low, high));
  }

  -- by a step of its node
  pub moved_set : {T E : Type 0} (nodes node : ℕ) (disks : List D) (d e : D) (r : Result T E) (h : E) → 1 ≤ node → node ≤ nodes →
      slice_get disks (node - 1) ≡ Some d → CountsStep (counts disk d) (counts disk e) r h
      → HaveMoved disk nodes [] disks (slice_set disks (node - 1) e)
  moved_set nodes node disks d e r h low high at counted =
      moved_at nodes node [] disks d e low high at (λ n apart. refl) (record {
        later = counted.later;
        arms =
            omega (arith, counted.arms);
        last = counted.last_arm;
      })

  -- as an event asks for it
  pub moved_armed : (nodes node calls : ℕ) (kind : StopKind) (disks : List D) (d e : D) → 1 ≤ node → node ≤ nodes →
      slice_get disks (node - 1) ≡ Some d → disk.stops e ≡ disk.stops d → disk.arms e ≡ disk.arms d + 1
      → disk.last_arm e ≡ Some (calls, outcome_of kind) →
      HaveMoved disk nodes (event.Stop node calls kind ∷ []) disks (slice_set disks (node - 1) e)
  moved_armed nodes node calls kind disks d e low high at stops arms last =
      moved_at nodes node (event.Stop node calls kind ∷ []) disks d e low high at (λ n apart. asked_there n node calls kind apart)
      (subst (λ asked. Moves asked (counts disk d) (counts disk e)) (sym (asked_here node calls kind)) (record {
        later =
            omega (arith, stops);
        arms = arms;
        last = last;
      }))

  -- an event that asks for no arm of these nodes
  pub moved_unasked : (nodes : ℕ) (e : Event) (old new : List D) → ((n : ℕ) → 1 ≤ n → n ≤ nodes → arm_at n e ≡ None) →
      HaveMoved disk nodes [] old new → HaveMoved disk nodes (e ∷ []) old new
  moved_unasked nodes e old new none a = record {
    count = a.count;
    each = λ i d f less at then_at. subst (λ asked. Moves asked (counts disk d) (counts disk f)) (sym (unasked (i + 1) e (none (i + 1) (omega arith) (omega (arith, less))))) (a.each i d f less at then_at);
    others = a.others;
  }

  pub moved_of : (nodes : ℕ) (e given : Event) (old new : List D) → given ≡ e → ((n : ℕ) → arm_at n e ≡ None) →
      HaveMoved disk nodes [] old new → HaveMoved disk nodes (given ∷ []) old new
  moved_of nodes e given old new is none a = moved_unasked nodes given old new (λ n low high. ap (arm_at n) is ∙ none n) a

  -- by a format of its node
  pub moved_call : {T E : Type 0} (nodes node : ℕ) (disks : List D) (d e : D) (r : Result T E) (h : E) → 1 ≤ node → node ≤ nodes →
      slice_get disks (node - 1) ≡ Some d → CountsCall (counts disk d) (counts disk e) r h
      → HaveMoved disk nodes [] disks (slice_set disks (node - 1) e)
  moved_call nodes node disks d e r h low high at counted =
      moved_at nodes node [] disks d e low high at (λ n apart. refl) (record {
        later = counted.stops.later;
        arms =
            omega (arith, counted.arms);
        last = counted.last_arm;
      })

  -- and where it wasn't stopped, no disk was
  pub unstopped_call : {T E : Type 0} (node : ℕ) (disks : List D) (d e : D) (r : Result T E) (stopped : E) → 1 ≤ node →
      slice_get disks (node - 1) ≡ Some d → CountsCall (counts disk d) (counts disk e) r stopped → (r ≡ Err stopped → ⊥)
      → HaveNotStopped disk disks (slice_set disks (node - 1) e)
  unstopped_call node disks d e r stopped low at counted none =
      record {
        count = length-set disks (node - 1) e;
        each =
            each_at (λ k x y. disk.stops y ≡ disk.stops x) node low (λ k x apart. refl) disks d e at (same_stops (counts disk d) (counts disk e) r stopped counted none);
      }

  pub unstopped_ok : {T E : Type 0} (node : ℕ) (disks : List D) (d e : D) (r : Result T E) (stopped : E) → 1 ≤ node →
      slice_get disks (node - 1) ≡ Some d → CountsCall (counts disk d) (counts disk e) r stopped
      → OnOk r (HaveNotStopped disk disks (slice_set disks (node - 1) e))
  unstopped_ok node disks d e (Ok value) stopped low at counted =
      unstopped_call node disks d e (Ok value) stopped low at counted (λ is. absurd (cc is))
  unstopped_ok node disks d e (Err other) stopped low at counted = tt

  pub stopped_at : (node : ℕ) (disks : List D) (d e : D) → slice_get disks (node - 1) ≡ Some d → Rose (disk.stops d) (disk.stops e) →
      HasStopped disk disks (slice_set disks (node - 1) e)
  stopped_at node disks d e at rose =
      record { place = node - 1; was = d; is = e; there = at; now = set_there (node - 1) e d disks at; rose = rose }

  -- behind calls that took no stop back
  pub stopped_later : (nodes : ℕ) (first second third : List D) → HaveMoved disk nodes [] first second →
      HaveMoved disk nodes [] second third → HasStopped disk second third → HasStopped disk first third
  stopped_later nodes first second third moved more s =
      let d = is_there s.place first (omega (arith, moved.count, within s.place s.was second s.there)) in
      let x = moved_later nodes [] first second s.place d.0 s.was moved d.1 s.there in
      let y = moved_later nodes [] second third s.place s.was s.is more s.there s.now in
      record {
        place = s.place;
        was = d.0;
        is = s.is;
        there = d.1;
        now = s.now;
        rose =
            λ few. ⊎_elim (λ small. omega (arith, x, s.rose small)) (λ big. omega (arith, y, few, big)) (cases_lt (disk.stops s.was) 18446744073709551615);
      }
