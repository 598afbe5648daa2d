-- What naming answers to a Bind is as it was asked, for an include or for a call; a binding that it names is of its incarnation.
use Rattle.arj_law_parts.proofs.Words
use Words.{◌≡◌, ◌<◌, ◌+◌, ◌&&◌, if◌then◌else◌, not, ℕ, Bool, true, false, Option, Some, None, refl, sym, ◌∙◌, ap, subst, cond, IfSome}
use Words.{option_map, Binding, BoundReply, Entry, ObjectState, Path, Row, entry, Pair, Served, held_at, void, Counted, Live, Made, Named}
use Words.{bind_call, bind_made, bind_named, conflict_on, include_asked, live_above, live_asked, made_above, make_asked, Naming, entry_of}
use Words.{is_over, listed_entry, on_counted, at_number, at_uid, binding_less, top_of}
use Words.mode
use Words.naming
use Rattle.arj_law_disk_view.proofs.Terms.{Whole, World, Packed, has, some_is, SeesEntry, packed_entry, NamesOwn, IsOfGoal, NamesNow}
use Rattle.arj_law_disk_view.specs.running.Bindings.{HasOwnBindings}

answers_so : (n x : ℕ) (p : Path) (include : Bool) (avoid : Binding) (e : Entry) (c : Counted) →
    IfSome (bind_named n x p include avoid e c).reply (IsOfGoal include)
answers_so n x p true avoid e c = by (conflict_on x p mode.Write c.named)
  where
    by : (r : Option Row) → IfSome (include_asked n x p e c r).reply (IsOfGoal true)
    by (Some r) = tt
    by None = refl
answers_so n x p false avoid e c = by (live_above avoid c.named.live)
  where
    made : (m : Option Made) → IfSome (bind_made n x p e c m).reply (IsOfGoal false)
    made (Some m) = refl
    made None = refl

    new : (r : Option Row) → IfSome (make_asked n x p avoid e c r).reply (IsOfGoal false)
    new (Some r) = tt
    new None = made (made_above avoid (at_uid (top_of p) c.named.made))

    live : (l : Live) (r : Option Row) → IfSome (live_asked n x p e c l r).reply (IsOfGoal false)
    live l (Some r) = tt
    live l None = refl

    by : (l : Option Live) → IfSome (bind_call n x p avoid e c l).reply (IsOfGoal false)
    by (Some l) = live l (conflict_on x p mode.Read c.named)
    by None = new (conflict_on x p mode.Write c.named)

bind_answers : (p : Path) (x : ℕ) (include : Bool) (avoid : Binding) (d : Pair) (n : Naming) →
    IfSome (naming.bind p x include avoid d n).reply (IsOfGoal include)
bind_answers p x include avoid d n = by (is_over p n)
  where
    call : Counted → Served Counted BoundReply
    call = bind_named n.inc x p include avoid (listed_entry x d)

    there : (o : Option Named) → IfSome (on_counted x call n o).reply (IsOfGoal include)
    there None = tt
    there (Some o) = answers_so n.inc x p include avoid (listed_entry x d) (record { named = o; count = n.count })

    by : (b : Bool) → IfSome (cond b (void n) (on_counted x call n (at_number x n.objects))).reply (IsOfGoal include)
    by true = tt
    by false = there (at_number x n.objects)

pub bind_kind : (p : Path) (x : ℕ) (include : Bool) (avoid : Binding) (d : Pair) (n : Naming) (r : BoundReply) →
    (naming.bind p x include avoid d n).reply ≡ Some r → IsOfGoal include r
bind_kind p x include avoid d n r is = subst (λ o. IfSome o (IsOfGoal include)) is (bind_answers p x include avoid d n)

-- ---- what it names

-- some store stands in the entry
abbrev pub HasStore : Entry → Type 0
HasStore e = (s : ℕ) × (has s e.stores ≡ true)

live_is : (avoid : Binding) (o : Option Live) (l : Live) → live_above avoid o ≡ Some l → o ≡ Some l
live_is avoid None l is = absurd (cc is)
live_is avoid (Some k) l is = by (binding_less avoid k.binding) is
  where
    by : (b : Bool) → (if b then Some k else None) ≡ Some l → Some k ≡ Some l
    by true at = at
    by false at = absurd (cc at)

made_is : (avoid : Binding) (o : Option Made) (m : Made) → made_above avoid o ≡ Some m → o ≡ Some m
made_is avoid None m is = absurd (cc is)
made_is avoid (Some k) m is = by (not k.recorded && binding_less avoid k.binding) is
  where
    by : (b : Bool) → (if b then Some k else None) ≡ Some m → Some k ≡ Some m
    by true at = at
    by false at = absurd (cc at)

names_so : (n x : ℕ) (p : Path) (include : Bool) (avoid : Binding) (e : Entry) (c : Counted) → HasOwnBindings n c.named →
    c.count + 1 < 4294967296 → HasStore e → IfSome (bind_named n x p include avoid e c).reply NamesNow
names_so n x p true avoid e c own next stored = by (conflict_on x p mode.Write c.named)
  where
    by : (r : Option Row) → IfSome (include_asked n x p e c r).reply NamesNow
    by (Some r) = tt
    by None = tt
names_so n x p false avoid e c own next stored = by (live_above avoid c.named.live) refl
  where
    made : (m : Option Made) → made_above avoid (at_uid (top_of p) c.named.made) ≡ m → IfSome (bind_made n x p e c m).reply NamesNow
    made (Some m) is = let b = own.made (top_of p) m (made_is avoid (at_uid (top_of p) c.named.made) m is) in
        record { inc = b.of; short = b.short; stored = stored }
    made None is = record { inc = refl; short = next; stored = stored }

    new : (r : Option Row) → IfSome (make_asked n x p avoid e c r).reply NamesNow
    new (Some r) = tt
    new None = made (made_above avoid (at_uid (top_of p) c.named.made)) refl

    live : (l : Live) → live_above avoid c.named.live ≡ Some l → (r : Option Row) → IfSome (live_asked n x p e c l r).reply NamesNow
    live l is (Some r) = tt
    live l is None = let b = own.live l (live_is avoid c.named.live l is) in record { inc = b.of; short = b.short; stored = stored }

    by : (l : Option Live) → live_above avoid c.named.live ≡ l → IfSome (bind_call n x p avoid e c l).reply NamesNow
    by (Some l) is = live l is (conflict_on x p mode.Read c.named)
    by None is = new (conflict_on x p mode.Write c.named)

-- a Bind is answered with a binding of naming's incarnation, and with stores, where the object's entry lists some
pub bind_names : (p : Path) (x : ℕ) (include : Bool) (avoid : Binding) (d : Pair) (n : Naming) (r : BoundReply) → NamesOwn n →
    HasStore (listed_entry x d) → (naming.bind p x include avoid d n).reply ≡ Some r → NamesNow r
bind_names p x include avoid d n r own stored is = subst (λ o. IfSome o NamesNow) is (by (is_over p n))
  where
    call : Counted → Served Counted BoundReply
    call = bind_named n.inc x p include avoid (listed_entry x d)

    there : (o : Option Named) → at_number x n.objects ≡ o → IfSome (on_counted x call n o).reply NamesNow
    there None at = tt
    there (Some o) at =
        names_so n.inc x p include avoid (listed_entry x d) (record { named = o; count = n.count }) (own.objects x o at) own.next stored

    by : (b : Bool) → IfSome (cond b (void n) (on_counted x call n (at_number x n.objects))).reply NamesNow
    by true = tt
    by false = there (at_number x n.objects) refl

-- an entry that the machine has lists some store
pub entry_stored : (x : ℕ) (d : Pair) (W : World) → Whole W → SeesEntry x d W.disk → HasStore (listed_entry x d)
entry_stored x d W whole e = by (held_at (entry x) d) refl
  where
    by : (o : Option ObjectState) → held_at (entry x) d ≡ o → HasStore (entry_of o)
    by None is =
        absurd (let n : ◌≡◌ {A = Option Packed} None (Some W.disk.entry) = ap (option_map packed_entry) (sym is) ∙ e.pair.held_is in cc)
    by (Some q) is = let h = whole.core.pending.held in let same : packed_entry q ≡ W.disk.entry = some_is refl
        (ap (option_map packed_entry) (sym is) ∙ e.pair.held_is) in (h.0, ap (λ (z : Packed). has h.0 z.content) same ∙ h.1)
