-- What naming does in memory are lines; and where it doesn't answer it did nothing.
use Rattle.std.proofs.Common.{◌≡◌, ◌∙◌, ◌==◌, ◌||◌, ◌++◌, ℕ, Bool, true, false, cond, not, List, [], ◌∷◌, refl, sym, ap, Option, Some, None}
use Rattle.std.specs.Prelude.{is_some, if◌then◌else◌}
use Rattle.std.specs.BTreeMap.{is_at}
use Rattle.std.specs.List.Sorted.{IsStrictlySortedBy}
use Rattle.std.specs.Map.{keys_of, lookup}
use Rattle.std.specs.declared.cmp.Ordering.{Ordering}
use Rattle.std.specs.declared.cmp.Ordering.TheVariants.{Less, Equal, Greater}
use Rattle.std.specs.Ordering.{nat_cmp, is_eq, match_ordering}
use Rattle.std.specs.Cmp.{nat_cmp_total}
use Rattle.std.proofs.lemmas.Map.{lookup-none}
use Rattle.std.proofs.lemmas.Map.Entries.{none_below_head}
use Rattle.std.proofs.lemmas.Map.Keys.{sorted_tail}
use Rattle.arj_naming.specs.Confirming.{AreLines}
use Rattle.arj_protocol.specs.Ask.{top_of}
use Rattle.arj_protocol.specs.Confirm as confirming
use Rattle.arj_protocol.specs.Confirm.{Grants, Marks, checked, confirm_entries, confirm_new, confirms, entries_after, has_all, lock_all}
use Rattle.arj_protocol.specs.Confirm.{prepared_by, wanted}
use Rattle.arj_protocol.specs.Copy.{is_granted}
use Rattle.arj_protocol.specs.Effect.{Effect, Say, Pair, Served, Did, Prep, Ready, Already, Old, InDoubt, is_prepared, prepare_answer}
use Rattle.arj_protocol.specs.Effect.{reply, void}
use Rattle.arj_protocol.specs.Named.{Live, Made, Named, Counted, bind_call, bind_made, bind_named, conflict_on, entry_row, include_asked}
use Rattle.arj_protocol.specs.Named.{in_use, is_lowered, lowered, live_above, live_asked, lock_lines, lower_lines, made_above, make_asked}
use Rattle.arj_protocol.specs.Named.{note_made, note_named, note_other}
use Rattle.arj_protocol.specs.Naming as naming
use Rattle.arj_protocol.specs.Naming.{Naming, is_over, listed_entry, on_counted, on_named}
use Rattle.arj_protocol.specs.Order.{at_number, at_uid, binding_eq, put_number}
use Rattle.arj_protocol.specs.Words.{Binding, ConfirmedReply, Entry, Mode, ObjectState, Path, Row, Uid, entry, is_on}
use Rattle.arj_protocol.specs.Words.body
use Rattle.arj_protocol.specs.Words.mode
use Rattle.arj_protocol.specs.Words.confirmed
use Rattle.arj_protocol.specs.Words.recorded
use Rattle.arj_protocol.specs.Words.what
use Rattle.arj_serve.proofs.Served.{VoidIsNothing}
use Rattle.arj_protocol.specs.Order.{is_binding}

-- what was found under a number, put back, changes nothing
pub put_as_found : {X : Type 0} (x : ℕ) (v : X) (es : List (ℕ × X)) → IsStrictlySortedBy nat_cmp (keys_of es) → at_number x es ≡ Some v →
    put_number x v es ≡ es
put_as_found x v [] sorted at = absurd (cc at)
put_as_found {X} x v (e ∷ es) sorted at =
    by (nat_cmp x e.0) refl (λ more. put_as_found x v es (sorted_tail nat_cmp e.0 (keys_of es) sorted) more) at
  where
    by : (r : Ordering) → nat_cmp x e.0 ≡ r → (at_number x es ≡ Some v → put_number x v es ≡ es) →
        cond (is_eq r) (Some e.1) (lookup (is_at (nat_cmp x)) es) ≡ Some v
        → match_ordering r ((x, v) ∷ e ∷ es) ((e.0, v) ∷ es) (e ∷ put_number x v es) ≡ e ∷ es
    by Less is ih found = absurd (cc (sym (lookup-none (is_at (nat_cmp x)) (e ∷ es) (none_below_head nat_cmp_total x e es sorted is)) ∙ at))
    by Equal is ih found = let same : e.1 ≡ v = cc found in λ i. (e.0, sym same i) ∷ es
    by Greater is ih found = ap (λ rest. e ∷ rest) (ih found)

-- ---- lines

if_line : (b : Bool) (e : Effect) → AreLines (e ∷ []) → AreLines (if b then e ∷ [] else [])
if_line true e is = is
if_line false e is = tt

lock_said : (x : ℕ) (p : Path) (m : Mode) (o : Named) → AreLines (lock_lines x p m o)
lock_said x p m o = by (is_granted (entry_row x p m).object (top_of p) m o.rows)
  where
    by : (b : Bool) → AreLines (if b then [] else Say (body.Granted 1 (top_of p) (entry_row x p m).object m) ∷ [])
    by true = tt
    by false = tt

pub lines_append : (a b : List Effect) → AreLines a → AreLines b → AreLines (a ++ b)
lines_append [] b la lb = lb
lines_append (Say t ∷ es) b la lb = lines_append es b la lb
lines_append (e ∷ es) b la lb = absurd la

made_said : (inc x : ℕ) (p : Path) (e : Entry) (c : Counted) (m : Option Made) → AreLines (bind_made inc x p e c m).outs
made_said inc x p e c (Some m) = lock_said x p mode.Write c.named
made_said inc x p e c None =
    lines_append (lock_lines x p mode.Write c.named) (Say (body.Bound x _ _) ∷ []) (lock_said x p mode.Write c.named) tt

make_said : (inc x : ℕ) (p : Path) (avoid : Binding) (e : Entry) (c : Counted) (r : Option Row) →
    AreLines (make_asked inc x p avoid e c r).outs
make_said inc x p avoid e c (Some r) = tt
make_said inc x p avoid e c None = made_said inc x p e c (made_above avoid (at_uid (top_of p) c.named.made))

live_said : (inc x : ℕ) (p : Path) (e : Entry) (c : Counted) (l : Live) (r : Option Row) → AreLines (live_asked inc x p e c l r).outs
live_said inc x p e c l (Some r) = tt
live_said inc x p e c l None = lock_said x p mode.Read c.named

call_said : (inc x : ℕ) (p : Path) (avoid : Binding) (e : Entry) (c : Counted) (l : Option Live) →
    AreLines (bind_call inc x p avoid e c l).outs
call_said inc x p avoid e c (Some l) = live_said inc x p e c l (conflict_on x p mode.Read c.named)
call_said inc x p avoid e c None = make_said inc x p avoid e c (conflict_on x p mode.Write c.named)

include_said : (inc x : ℕ) (p : Path) (e : Entry) (c : Counted) (r : Option Row) → AreLines (include_asked inc x p e c r).outs
include_said inc x p e c (Some r) = tt
include_said inc x p e c None = lock_said x p mode.Write c.named

named_said : (inc x : ℕ) (p : Path) (include : Bool) (avoid : Binding) (e : Entry) (c : Counted) →
    AreLines (bind_named inc x p include avoid e c).outs
named_said inc x p true avoid e c = include_said inc x p e c (conflict_on x p mode.Write c.named)
named_said inc x p false avoid e c = call_said inc x p avoid e c (live_above avoid c.named.live)

pub bind_said : (p : Path) (x : ℕ) (include : Bool) (avoid : Binding) (d : Pair) (n : Naming) →
    AreLines (naming.bind p x include avoid d n).outs
bind_said p x include avoid d n = by (is_over p n) (at_number x n.objects)
  where
    by : (b : Bool) (o : Option Named) →
        AreLines (if b then void n else on_counted x (bind_named n.inc x p include avoid (listed_entry x d)) n o).outs
    by true o = tt
    by false None = tt
    by false (Some o) = named_said n.inc x p include avoid (listed_entry x d) (record { named = o; count = n.count })

note_made_said : (x : ℕ) (top : Uid) (i : ℕ) (o : Named) (m : Made) → AreLines (note_made x top i o m).outs
note_made_said x top i o m = by m.recorded
  where
    by : (b : Bool) →
        AreLines (if b then reply o recorded.Yes else record {
          part = lowered x top (in_use top m i o);
          outs = lower_lines x top o;
          reply =
              Some recorded.Yes;
        }).outs
    by true = tt
    by false = if_line (is_lowered x top o) (Say (body.Lowered 1 top (entry x))) tt

other_said : (x : ℕ) (top : Uid) (b : Binding) (i : ℕ) (o : Named) (m : Option Made) → AreLines (note_other x top b i o m).outs
other_said x top b i o None = tt
other_said x top b i o (Some m) = by (binding_eq b m.binding)
  where
    by : (t : Bool) → AreLines (if t then note_made x top i o m else void o).outs
    by true = note_made_said x top i o m
    by false = tt

noted_said : (x : ℕ) (top : Uid) (b : Binding) (i : ℕ) (o : Named) → AreLines (note_named x top b i o).outs
noted_said x top b i o = by (is_binding b o.recorded)
  where
    by : (t : Bool) → AreLines (if t then reply o recorded.Yes else note_other x top b i o (at_uid top o.made)).outs
    by true = tt
    by false = other_said x top b i o (at_uid top o.made)

pub note_said : (p : Path) (x : ℕ) (b : Binding) (i g : ℕ) (n : Naming) → AreLines (naming.note p x b i g n).outs
note_said p x b i g n = by (is_over p n || not (is_some (at_number x n.objects))) (g == n.inc) (at_number x n.objects)
  where
    by : (t s : Bool) (o : Option Named) →
        AreLines (if t then void n else (if s then on_named x (note_named x (top_of p) b i) n o else reply n (recorded.Changed (what.Inc g n.inc)))).outs
    by true s o = tt
    by false false o = tt
    by false true None = tt
    by false true (Some o) = noted_said x (top_of p) b i o

-- ---- answers

-- it is answered
abbrev Answers : {S R : Type 0} → Served S R → Type 0
Answers r = r.reply ≡ None → ⊥

made_answers : (inc x : ℕ) (p : Path) (e : Entry) (c : Counted) (m : Option Made) → Answers (bind_made inc x p e c m)
made_answers inc x p e c (Some m) none = cc none
made_answers inc x p e c None none = cc none

make_answers : (inc x : ℕ) (p : Path) (avoid : Binding) (e : Entry) (c : Counted) (r : Option Row) →
    Answers (make_asked inc x p avoid e c r)
make_answers inc x p avoid e c (Some r) none = cc none
make_answers inc x p avoid e c None none = made_answers inc x p e c (made_above avoid (at_uid (top_of p) c.named.made)) none

live_answers : (inc x : ℕ) (p : Path) (e : Entry) (c : Counted) (l : Live) (r : Option Row) → Answers (live_asked inc x p e c l r)
live_answers inc x p e c l (Some r) none = cc none
live_answers inc x p e c l None none = cc none

call_answers : (inc x : ℕ) (p : Path) (avoid : Binding) (e : Entry) (c : Counted) (l : Option Live) →
    Answers (bind_call inc x p avoid e c l)
call_answers inc x p avoid e c (Some l) none = live_answers inc x p e c l (conflict_on x p mode.Read c.named) none
call_answers inc x p avoid e c None none = make_answers inc x p avoid e c (conflict_on x p mode.Write c.named) none

include_answers : (inc x : ℕ) (p : Path) (e : Entry) (c : Counted) (r : Option Row) → Answers (include_asked inc x p e c r)
include_answers inc x p e c (Some r) none = cc none
include_answers inc x p e c None none = cc none

named_answers : (inc x : ℕ) (p : Path) (include : Bool) (avoid : Binding) (e : Entry) (c : Counted) →
    Answers (bind_named inc x p include avoid e c)
named_answers inc x p true avoid e c none = include_answers inc x p e c (conflict_on x p mode.Write c.named) none
named_answers inc x p false avoid e c none = call_answers inc x p avoid e c (live_above avoid c.named.live) none

pub bind_nothing : (p : Path) (x : ℕ) (include : Bool) (avoid : Binding) (d : Pair) (n : Naming) →
    VoidIsNothing n (naming.bind p x include avoid d n)
bind_nothing p x include avoid d n = by (is_over p n) (at_number x n.objects)
  where
    by : (b : Bool) (o : Option Named) →
        VoidIsNothing n (if b then void n else on_counted x (bind_named n.inc x p include avoid (listed_entry x d)) n o)
    by true o none = (refl, refl)
    by false None none = (refl, refl)
    by false (Some o) none = absurd (named_answers n.inc x p include avoid (listed_entry x d) (record { named = o; count = n.count }) none)

note_made_answers : (x : ℕ) (top : Uid) (i : ℕ) (o : Named) (m : Made) → Answers (note_made x top i o m)
note_made_answers x top i o m = by m.recorded
  where
    by : (b : Bool) →
        Answers (if b then reply o recorded.Yes else record {
          part = lowered x top (in_use top m i o);
          outs = lower_lines x top o;
          reply =
              Some recorded.Yes;
        })
    by true none = cc none
    by false none = cc none

other_nothing : (x : ℕ) (top : Uid) (b : Binding) (i : ℕ) (o : Named) (m : Option Made) → VoidIsNothing o (note_other x top b i o m)
other_nothing x top b i o None none = (refl, refl)
other_nothing x top b i o (Some m) none = by (binding_eq b m.binding) none
  where
    by : (t : Bool) → VoidIsNothing o (if t then note_made x top i o m else void o)
    by true gone = absurd (note_made_answers x top i o m gone)
    by false gone = (refl, refl)

noted_nothing : (x : ℕ) (top : Uid) (b : Binding) (i : ℕ) (o : Named) → VoidIsNothing o (note_named x top b i o)
noted_nothing x top b i o = by (is_binding b o.recorded)
  where
    by : (t : Bool) → VoidIsNothing o (if t then reply o recorded.Yes else note_other x top b i o (at_uid top o.made))
    by true none = absurd (cc none)
    by false none = other_nothing x top b i o (at_uid top o.made) none

pub note_nothing : (p : Path) (x : ℕ) (b : Binding) (i g : ℕ) (n : Naming) → IsStrictlySortedBy nat_cmp (keys_of n.objects) →
    VoidIsNothing n (naming.note p x b i g n)
note_nothing p x b i g n sorted = by (is_over p n || not (is_some (at_number x n.objects))) (g == n.inc) (at_number x n.objects) refl
  where
    by : (t s : Bool) (o : Option Named) → at_number x n.objects ≡ o
        → VoidIsNothing n (if t then void n else (if s then on_named x (note_named x (top_of p) b i) n o else reply n (recorded.Changed (what.Inc g n.inc))))
    by true s o at none = (refl, refl)
    by false false o at none = absurd (cc none)
    by false true None at none = (refl, refl)
    by false true (Some o) at none =
        let nothing = noted_nothing x (top_of p) b i o none in (
          (λ j. record n { objects = put_number x (nothing.0 j) n.objects }) ∙ (λ j. record n {
            objects =
                put_as_found x o n.objects sorted at j;
          }),
          nothing.1,
        )

entries_answer : (top : Uid) (states : List ObjectState) (d : Pair) (t : Did Naming) → Answers (confirm_entries top states d t)
entries_answer top [] d t none = cc none
entries_answer top (s ∷ ss) d t none = by (prepare_answer top (s ∷ ss) d) none
  where
    by : (a : Prep) → Answers (prepared_by top (s ∷ ss) t a)
    by Ready none = cc none
    by (InDoubt u holder) none = cc none
    by (Already u) none = cc none
    by (Old u v) none = cc none

new_answers : (p : Path) (grants : Grants) (excluded included : Marks) (d : Pair) (n : Naming) (r : Option ConfirmedReply) →
    Answers (confirm_new p grants excluded included d n r)
new_answers p grants excluded included d n (Some r) none = cc none
new_answers p grants excluded included d n None none =
    entries_answer (top_of p) (entries_after (top_of p) grants excluded included d) d (lock_all (wanted (top_of p) grants excluded d) p n) none

pub confirm_nothing : (p : Path) (grants : Grants) (excluded included : Marks) (d : Pair) (n : Naming) →
    VoidIsNothing n (confirming.confirm p grants excluded included d n)
confirm_nothing p grants excluded included d n =
    by (is_over p n || not (has_all grants n)) (is_on n.confirmed (top_of p) || is_prepared (top_of p) d)
  where
    by : (t s : Bool) →
        VoidIsNothing n (if t then void n else (if s then reply (confirms (top_of p) n) confirmed.Yes else confirm_new p grants excluded included d n (checked p grants excluded included d n)))
    by true s none = (refl, refl)
    by false true none = absurd (cc none)
    by false false none = absurd (new_answers p grants excluded included d n (checked p grants excluded included d n) none)
