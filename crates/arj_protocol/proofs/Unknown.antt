-- Ends of which a part knows nothing, and objects that a call doesn't speak of.
use Rattle.std.proofs.Common.{◌≡◌, ℕ, List, [], ◌∷◌, Bool, true, false, cond, refl, sym, ◌∙◌, ap, map, filter, Option, Some, None, ◌&&◌}
use Rattle.std.proofs.lemmas.Bool.{or_parts}
use Rattle.std.specs.Prelude.{not, ◌||◌, if◌then◌else◌, option_map}
use Rattle.std.specs.List.{list_any, flat_map, AllByRecursion}
use Rattle.std.specs.Ordering.{nat_cmp, is_eq}
use Rattle.std.specs.declared.cmp.Ordering.{Ordering}
use Rattle.std.specs.declared.cmp.Ordering.TheVariants.{Less, Equal, Greater}
use Rattle.std.specs.FinMap.{nat_cmp-IsAntisymmetric}
use Rattle.arj_protocol.specs.Words.{Uid, End, Row, ObjectState, uid_eq, nobody, is_on, is_held_by, pass_rows, uid_order}
use Rattle.arj_protocol.specs.Words.ending
use Rattle.arj_protocol.specs.Order.{at_number, each, at_uid, without_uid, drop_uid}
use Rattle.arj_protocol.specs.Effect.{Did, Pair, did_nothing, is_prepared}
use Rattle.arj_protocol.specs.Copy.{Copy, Over, end_copy, overs_committed, over_of, undone, holds}
use Rattle.arj_protocol.specs.Named.{Named, end_named}
use Rattle.arj_protocol.specs.Server as server
use Rattle.arj_protocol.specs.Server.{Server, apply_ends, end_one, end_new, is_told}
use Rattle.arj_protocol.specs.Naming as naming
use Rattle.arj_protocol.specs.Naming.{Naming, loses, loses_row, orphans, end_orphans, told_new, end_locks}
use Rattle.arj_protocol.specs.Laws.{UnknownToCopy, UnknownToNamed, UnknownToServer, UnknownToNaming, AreUnknownAt, AreOfActions, OnlyEnds}
use Rattle.arj_protocol.specs.Laws.{OnlyTold, LeavesCopy}
use Rattle.arj_protocol.proofs.RowSteps.{not_last, holds_rest, passes_none, drops_none}

-- ---- lists

-- who isn't in a set is in none of it
pub drops_no_uid : (u : Uid) (us : List Uid) → is_on us u ≡ false → drop_uid u us ≡ us
drops_no_uid u [] none = refl
drops_no_uid u (w ∷ us) none =
    let p = or_parts (uid_eq w u) (is_on us u) none in
    rw p.0 (ap (λ ws. w ∷ ws) (drops_no_uid u us p.1))

pub removes_none : {X : Type 0} (u : Uid) (m : List (Uid × X)) → at_uid u m ≡ None → without_uid u m ≡ m
removes_none u [] none = refl
removes_none {X} u (e ∷ es) none = by (is_eq (uid_order u e.0)) none (removes_none u es)
  where
    by : (b : Bool) → cond b (Some e.1) (at_uid u es) ≡ None → (at_uid u es ≡ None → without_uid u es ≡ es) →
        cond b es (e ∷ without_uid u es) ≡ e ∷ es
    by true none ih = absurd (cc none)
    by false none ih = ap (λ rest. e ∷ rest) (ih none)

-- what is found among values that were each changed
pub found_each : {X : Type 0} (f : ℕ → X → X) (k : ℕ) (m : List (ℕ × X)) → at_number k (each f m) ≡ option_map (f k) (at_number k m)
found_each f k [] = refl
found_each {X} f k (e ∷ es) = by (nat_cmp k e.0) refl (found_each f k es)
  where
    by : (r : Ordering) → nat_cmp k e.0 ≡ r → at_number k (each f es) ≡ option_map (f k) (at_number k es)
        → cond (is_eq r) (Some (f e.0 e.1)) (at_number k (each f es)) ≡ option_map (f k) (cond (is_eq r) (Some e.1) (at_number k es))
    by Less is ih = ih
    by Greater is ih = ih
    by Equal is ih = ap (λ n. Some (f n e.1)) (sym (nat_cmp-IsAntisymmetric k e.0 is))

-- ---- one object at a server

no_overlay : (u : Uid) (es : List Over) → uid_eq nobody u ≡ false → list_any (λ e. is_on e.holder u) es ≡ false → over_of u es ≡ None
no_overlay u [] someone none = refl
no_overlay u (e ∷ es) someone none =
    let p = or_parts (is_on e.holder u) (list_any (λ e. is_on e.holder u) es) none in
    rw (not_last e.holder u someone p.0) (no_overlay u es someone p.1)

none_undone : (u : Uid) (es : List Over) → list_any (λ e. is_on e.holder u) es ≡ false → undone u es ≡ es
none_undone u [] none = refl
none_undone u (e ∷ es) none =
    let p = or_parts (is_on e.holder u) (list_any (λ e. is_on e.holder u) es) none in
    rw p.0 (ap (λ rest. e ∷ rest) (none_undone u es p.1))

pub copy_stays : (u : Uid) (e : End) (c : Copy) → uid_eq nobody u ≡ false → UnknownToCopy u c → end_copy u e c ≡ c
copy_stays u ending.Commit c someone k =
    ap (λ o. let d = overs_committed u o c in record d { rows = pass_rows u c.rows }) (no_overlay u c.stack someone k.overlays)
    ∙ (λ i. record c { rows = passes_none u c.rows someone k.locks i })
copy_stays u ending.Abort c someone k = λ i. record c { stack = none_undone u c.stack k.overlays i; rows = drops_none u c.rows k.locks i }

-- ---- one object at naming

pub named_stays : (u : Uid) (e : End) (o : Named) → uid_eq nobody u ≡ false → UnknownToNamed u o → end_named u e o ≡ o
named_stays u ending.Commit o someone k =
    λ i. record o {
      made = removes_none u o.made k.made i;
      asked = drops_no_uid u o.asked k.asked i;
      rows =
          passes_none u o.rows someone k.locks i;
    }
named_stays u ending.Abort o someone k =
    λ i. record o { made = removes_none u o.made k.made i; asked = drops_no_uid u o.asked k.asked i; rows = drops_none u o.rows k.locks i }

-- ---- all objects

copies_stay : (u : Uid) (e : End) (m : List (ℕ × Copy)) → uid_eq nobody u ≡ false →
    AllByRecursion (λ (x : ℕ × Copy). UnknownToCopy u x.1) m → each (λ x. end_copy u e) m ≡ m
copies_stay u e [] someone all = refl
copies_stay u e (x ∷ xs) someone all = λ i. (x.0, copy_stays u e x.1 someone all.0 i) ∷ copies_stay u e xs someone all.1 i

all_named_stay : (u : Uid) (e : End) (m : List (ℕ × Named)) → uid_eq nobody u ≡ false →
    AllByRecursion (λ (x : ℕ × Named). UnknownToNamed u x.1) m → each (λ x. end_named u e) m ≡ m
all_named_stay u e [] someone all = refl
all_named_stay u e (x ∷ xs) someone all = λ i. (x.0, named_stays u e x.1 someone all.0 i) ∷ all_named_stay u e xs someone all.1 i

copies_have_none : (u : Uid) (m : List (ℕ × Copy)) → AllByRecursion (λ (x : ℕ × Copy). UnknownToCopy u x.1) m →
    list_any (λ (x : ℕ × Copy). holds u x.1.rows) m ≡ false
copies_have_none u [] all = refl
copies_have_none u (x ∷ xs) all = let k = all.0 in rw k.locks (copies_have_none u xs all.1)

named_have_none : (u : Uid) (m : List (ℕ × Named)) → AllByRecursion (λ (x : ℕ × Named). UnknownToNamed u x.1) m →
    list_any (λ (x : ℕ × Named). holds u x.1.rows) m ≡ false
named_have_none u [] all = refl
named_have_none u (x ∷ xs) all = let k = all.0 in rw k.locks (named_have_none u xs all.1)

-- ---- an end of which the server knows nothing

pub NothingTold : Server → Did Server → Type 0
NothingTold s d = (d.outs ≡ []) × OnlyEnds s d.part

pub unknown_at_server : (n : ℕ) (u : Uid) (e : End) (s : Server) → uid_eq nobody u ≡ false → UnknownToServer u s →
    ((end_one n u e s).outs ≡ []) × OnlyEnds s (end_one n u e s).part
unknown_at_server n u e s someone k = by (is_told u s)
  where
    by : (b : Bool) →
        ((if b then did_nothing s else end_new n u (server.taken_end u e s) s).outs ≡ []) × OnlyEnds s (if b then did_nothing s else end_new n u (server.taken_end u e s) s).part
    by true = (refl, record { inc = refl; objects = refl; kept = refl; voted = refl })
    by false = (
      rw (copies_have_none u s.objects k.objects) refl,
      record {
        inc = refl;
        objects = copies_stay u (server.taken_end u e s) s.objects someone k.objects;
        kept = removes_none u s.kept k.kept;
        voted = drops_no_uid u s.voted k.voted;
      },
    )

-- ---- an end of which naming knows nothing

loses_none : (u act : Uid) (rows : List Row) → holds u rows ≡ false → list_any (loses u act) rows ≡ false
loses_none u act [] none = refl
loses_none u act (r ∷ rows) none =
    let p = holds_rest u r rows none in
    by (is_held_by act r) p.0 (loses_none u act rows p.1)
  where
    by : (b : Bool) → is_on r.holder u ≡ false → list_any (loses u act) rows ≡ false →
        ((b && is_on r.holder u) || list_any (loses u act) rows) ≡ false
    by true here ih = rw here ih
    by false here ih = ih

loses_no_row : (u act : Uid) (m : List (ℕ × Named)) → AllByRecursion (λ (x : ℕ × Named). UnknownToNamed u x.1) m →
    list_any (λ (x : ℕ × Named). list_any (loses u act) x.1.rows) m ≡ false
loses_no_row u act [] all = refl
loses_no_row u act (x ∷ xs) all = let k = all.0 in rw (loses_none u act x.1.rows k.locks) (loses_no_row u act xs all.1)

no_orphan : (u : Uid) (n : Naming) (acts : List Uid) → AllByRecursion (λ (x : ℕ × Named). UnknownToNamed u x.1) n.objects →
    filter (λ act. not (uid_eq act u) && loses_row u act n) acts ≡ []
no_orphan u n [] all = refl
no_orphan u n (a ∷ acts) all = by (not (uid_eq a u)) (loses_no_row u a n.objects all) (no_orphan u n acts all)
  where
    by : (b : Bool) → loses_row u a n ≡ false → filter (λ act. not (uid_eq act u) && loses_row u act n) acts ≡ [] →
        cond (b && loses_row u a n) (a ∷ filter (λ act. not (uid_eq act u) && loses_row u act n) acts) (filter (λ act. not (uid_eq act u) && loses_row u act n) acts) ≡ []
    by true none ih = rw none ih
    by false none ih = ih

no_orphans : (u : Uid) (e : End) (d : Pair) (n : Naming) → AllByRecursion (λ (x : ℕ × Named). UnknownToNamed u x.1) n.objects →
    end_orphans u e d n ≡ []
no_orphans u ending.Commit d n all = refl
no_orphans u ending.Abort d n all =
    ap (flat_map (λ act. naming.end_entries act ending.Abort)) (no_orphan u n (map (λ (p : Uid × List ObjectState). p.0) d.pend) all)

pub unknown_at_naming : (u : Uid) (e : End) (d : Pair) (n : Naming) → uid_eq nobody u ≡ false → UnknownToNaming u n →
    is_prepared u d ≡ false → ((naming.told u e d n).outs ≡ []) × OnlyTold n (naming.told u e d n).part
unknown_at_naming u e d n someone k free = rw free (by (is_on n.told u))
  where
    by : (b : Bool) →
        ((if b then did_nothing n else told_new u (naming.taken_end u e n) d n).outs ≡ []) × OnlyTold n (if b then did_nothing n else told_new u (naming.taken_end u e n) d n).part
    by true = (refl, record { inc = refl; count = refl; objects = refl; confirmed = refl })
    by false = (
      rw (no_orphans u (naming.taken_end u e n) d n k.objects, named_have_none u n.objects k.objects) refl,
      record {
        inc = refl;
        count = refl;
        objects = all_named_stay u (naming.taken_end u e n) n.objects someone k.objects;
        confirmed = drops_no_uid u n.confirmed k.confirmed;
      },
    )

-- ---- ends of which an object's part knows nothing

end_leaves : (n x : ℕ) (u : Uid) (e : End) (s : Server) → uid_eq nobody u ≡ false →
    ((c : Copy) → at_number x s.objects ≡ Some c → UnknownToCopy u c) → LeavesCopy x s (end_one n u e s).part
end_leaves n x u e s someone none = by (is_told u s)
  where
    found : (o : Option Copy) → at_number x s.objects ≡ o → option_map (end_copy u (server.taken_end u e s)) o ≡ o
    found None is = refl
    found (Some c) is = ap Some (copy_stays u (server.taken_end u e s) c someone (none c is))

    by : (b : Bool) → LeavesCopy x s (if b then did_nothing s else end_new n u (server.taken_end u e s) s).part
    by true = refl
    by false = found_each (λ y. end_copy u (server.taken_end u e s)) x s.objects ∙ found (at_number x s.objects) refl

same_unknown : (x : ℕ) (s t : Server) (ends : List (Uid × End)) → LeavesCopy x s t → AreUnknownAt x ends s → AreUnknownAt x ends t
same_unknown x s t [] leaves none = tt
same_unknown x s t (e ∷ es) leaves none = (λ c is. none.0 c (sym leaves ∙ is), same_unknown x s t es leaves none.1)

pub ends_leave : (n x : ℕ) (ends : List (Uid × End)) (s : Server) → AreOfActions ends → AreUnknownAt x ends s →
    LeavesCopy x s (apply_ends n ends s).part
ends_leave n x [] s someone none = refl
ends_leave n x (e ∷ es) s someone none =
    let d = end_one n e.0 e.1 s in
    let first_leaves : LeavesCopy x s d.part = end_leaves n x e.0 e.1 s someone.0 none.0 in
    ends_leave n x es d.part someone.1 (same_unknown x s d.part es first_leaves none.1) ∙ first_leaves

-- an end that was told before
pub known_at_server : (n : ℕ) (u : Uid) (e : End) (s : Server) → is_told u s ≡ true →
    ((end_one n u e s).outs ≡ []) × ((end_one n u e s).part ≡ s)
known_at_server n u e s known = rw known (refl, refl)
