-- Copies agree in what the disk machine is seen in.
use Rattle.arj_law_parts.proofs.Words
use Words.{◌≡◌, ◌⊎◌, ℕ, List, [], ◌∷◌, true, Option, Some, None, refl, sym, ◌∙◌, ap, inl, inr, ⊎_elim, arith, ◌<◌, option_map, ObjectState}
use Words.{Uid, entry, is_listed, object, held_at, holder_of, Node, state_entry, number_tells, Seen}
use Rattle.arj_law_disk_view.proofs.Terms
use Terms.{Chain, History, World, Below, Done, Hold, KnownIn, Packed, last_in, has, In, bool_cases, some_is, clean, SeesEntry, hold_of}
use Terms.{packed, packed_entry, Kinds, SeesDisks, SeesStore, HasState}
use Terms.disk
use Rattle.arj_law_disk.proofs.machine
use machine.{Results.known_above}
use machine.History.{effective_done, effective_none, effective_open, known_last, known_below}
use Rattle.arj_law_disk_view.proofs.view.{ConfirmWalks.has_listed, StoreSteps.place_free}
use Rattle.arj_law_disk_view.specs.running.Runs.{AgreesOn, CopiesAgree, HasNext, HasPrepared}

-- two states that were last once, in one version, are one
known_one : (first : Packed) (ds : List Done) (g h : Packed) → Chain first ds → KnownIn first ds g → KnownIn first ds h →
    g.version ≡ h.version → g ≡ h
known_one first [] g h chain a b same = sym a ∙ b
known_one first (d ∷ ds) g h chain (inl a) (inl b) same = some_is a b
known_one first (d ∷ ds) g h chain (inr a) (inr b) same = known_one first ds g h chain.1 a b same
known_one first (d ∷ ds) g h chain (inl a) (inr b) same = absurd (newer (known_last first ds h chain.1 b))
  where
    newer : Below h (last_in first ds) → ⊥
    newer (inl less) = omega (arith, less, same, chain.0 g a)
    newer (inr is) = omega (arith, ap (λ (z : Packed). z.version) is, same, chain.0 g a)
known_one first (d ∷ ds) g h chain (inr a) (inl b) same = absurd (newer (known_last first ds g chain.1 a))
  where
    newer : Below g (last_in first ds) → ⊥
    newer (inl less) = omega (arith, less, same, chain.0 h b)
    newer (inr is) = omega (arith, ap (λ (z : Packed). z.version) is, same, chain.0 h b)

-- and none of them has the version of an older one
not_older : (S : disk.State) (g h : Packed) → History S → KnownIn S.first S.tops g → In h S.past → g.version ≡ h.version → ⊥
not_older S g h its a j same = by (known_above S.first S.tops g its.chain a)
  where
    by : (S.first ≡ g) ⊎ (S.first.version < g.version) → ⊥
    by (inl is) = omega (arith, its.past.below h j, same, ap (λ (z : Packed). z.version) is)
    by (inr less) = omega (arith, its.past.below h j, same, less)

-- so it is of older ones too
known_same : (S : disk.State) (g h : Packed) → History S → disk.Known S g → disk.Known S h → g.version ≡ h.version → g ≡ h
known_same S g h its (inl a) (inl b) same = known_one S.first S.tops g h its.chain a b same
known_same S g h its (inr i) (inr j) same = its.past.version g h i j same
known_same S g h its (inl a) (inr j) same = absurd (not_older S g h its a j same)
known_same S g h its (inr i) (inl b) same = absurd (not_older S h g its b i (sym same))

pub has_state : (x : ℕ) (last : Packed) (m : Node) (o : Option ObjectState) → held_at (object x) m.disk.store ≡ o →
    option_map packed o ≡ Some last → HasState x last m
has_state x last m None is h = absurd (cc h)
has_state x last m (Some st) is h = (st, is, (let same : packed st ≡ last = cc h in same))

pub agrees_on : (x : ℕ) (tops : Kinds) (W : World) (M : Seen) → SeesDisks x tops W M → AgreesOn x (disk.last W.disk) M
agrees_on x tops W M s =
    record { listed = each; kept = kept; stored = stored; below = below; one = one; alone = alone; changer = changer; rises = rises }
  where
    each : (n m : Node) (q : ObjectState) (j : ℕ) → M.nodes 1 ≡ Some n → holder_of (entry x) n.disk.names ≡ None →
        held_at (entry x) n.disk.names ≡ Some q → is_listed j (state_entry q).stores ≡ true → M.nodes j ≡ Some m →
        holder_of (object x) m.disk.store ≡ None → HasState x (disk.last W.disk) m
    each n m q j is free held on there clear =
        let e : SeesEntry x n.disk.names W.disk = s.entry n is in
        let o : SeesStore x j m.disk.store W.disk = s.stores j m there in
        let same : packed_entry q ≡ W.disk.entry = some_is refl (ap (option_map packed_entry) (sym held) ∙ e.pair.held_is) in
        let last = (clean W s.whole).stores (place_free (entry x) n.disk.names packed_entry (Some W.disk.entry) W.disk.entry_pend e.pair
        free) j (ap (λ (z : Packed). has j z.content) (sym same) ∙ sym (has_listed j (state_entry q).stores) ∙ on)
        (place_free (object x) m.disk.store packed (W.disk.held j) (W.disk.pend j) o.pair clear) in
        has_state x (disk.last W.disk) m (held_at (object x) m.disk.store) refl (o.pair.held_is ∙ last)

    -- what a store holds was the last state once
    known : (m : Node) (j : ℕ) (st : ObjectState) → M.nodes j ≡ Some m → held_at (object x) m.disk.store ≡ Some st →
        disk.Known W.disk (packed st)
    known m j st there held = let o : SeesStore x j m.disk.store W.disk = s.stores j m there in
        s.whole.core.history.held j (packed st) (sym o.pair.held_is ∙ ap (option_map packed) held)

    below : (m : Node) (j : ℕ) (st : ObjectState) → M.nodes j ≡ Some m → held_at (object x) m.disk.store ≡ Some st →
        Below (packed st) (disk.last W.disk)
    below m j st there held = known_below W.disk (packed st) s.whole.core.history (known m j st there held)

    one : (m n : Node) (j r : ℕ) (st su : ObjectState) → M.nodes j ≡ Some m → M.nodes r ≡ Some n → held_at (object x) m.disk.store
        ≡ Some st → held_at (object x) n.disk.store ≡ Some su → st.version ≡ su.version → packed st ≡ packed su
    one m n j r st su here there held held_there same =
        known_same W.disk (packed st) (packed su) s.whole.core.history (known m j st here held) (known n r su there held_there) same

    entry_is : (n : Node) (q : ObjectState) → M.nodes 1 ≡ Some n → held_at (entry x) n.disk.names ≡ Some q → packed_entry q ≡ W.disk.entry
    entry_is n q is held = let e : SeesEntry x n.disk.names W.disk = s.entry n is in
        some_is refl (ap (option_map packed_entry) (sym held) ∙ e.pair.held_is)

    stored : (n : Node) (q : ObjectState) → M.nodes 1 ≡ Some n → held_at (entry x) n.disk.names ≡ Some q →
        (j : ℕ) × (is_listed j (state_entry q).stores ≡ true)
    stored n q is held = let h = s.whole.core.pending.held in
        (h.0, has_listed h.0 (state_entry q).stores ∙ ap (λ (z : Packed). has h.0 z.content) (entry_is n q is held) ∙ h.1)

    kept : (n m : Node) (q : ObjectState) (j : ℕ) → M.nodes 1 ≡ Some n → holder_of (entry x) n.disk.names ≡ None →
        held_at (entry x) n.disk.names ≡ Some q → is_listed j (state_entry q).stores ≡ true → M.nodes j ≡ Some m →
        HasState x (disk.last W.disk) m ⊎ HasNext x (disk.last W.disk) m
    kept n m q j is free held on there = by (W.disk.pend j) refl
      where
        e : SeesEntry x n.disk.names W.disk
        e = s.entry n is

        o : SeesStore x j m.disk.store W.disk
        o = s.stores j m there

        same : W.disk.entry ≡ disk.last_entry W.disk
        same = (clean W s.whole).entry (place_free (entry x) n.disk.names packed_entry (Some W.disk.entry) W.disk.entry_pend e.pair free)

        will : disk.effective W.disk j ≡ Some (disk.last W.disk)
        will = s.whole.core.effective.store j
            (ap (λ (z : Packed). has j z.content) (sym same ∙ sym (entry_is n q is held)) ∙ sym (has_listed j (state_entry q).stores) ∙ on)

        holds : W.disk.held j ≡ Some (disk.last W.disk) → HasState x (disk.last W.disk) m
        holds h = has_state x (disk.last W.disk) m (held_at (object x) m.disk.store) refl (o.pair.held_is ∙ h)

        by : (p : Option Hold) → W.disk.pend j ≡ p → HasState x (disk.last W.disk) m ⊎ HasNext x (disk.last W.disk) m
        by None none = inl (holds (sym (effective_none (disk.decided W.disk) Some (W.disk.pend j) (W.disk.held j) none) ∙ will))
        by (Some h) there_is = ⊎_elim
            (λ done. let r = o.pair.holder h there_is in inr (
              r.action,
              r.state,
              (r.states, r.prepared, r.of),
              ap (λ (z : Hold). z.new) r.is
                  ∙ some_is (effective_done (disk.decided W.disk) Some (W.disk.pend j) h (W.disk.held j) there_is done) will,
            ))
            (λ open_yet.
            inl (holds (sym (effective_open (disk.decided W.disk) Some (W.disk.pend j) h (W.disk.held j) there_is open_yet) ∙ will)))
            (bool_cases (disk.decided W.disk h.top))

    alone : (m : Node) (j : ℕ) (a b : Uid) (st su : ObjectState) → M.nodes j ≡ Some m → HasPrepared a (object x) st m.disk.store →
        HasPrepared b (object x) su m.disk.store → a ≡ b
    alone m j a b st su there p q = let o : SeesStore x j m.disk.store W.disk = s.stores j m there in
        number_tells a b (ap (λ (h : Hold). h.top) (some_is (o.pair.held_by a p.0 st p.1 p.2) (o.pair.held_by b q.0 su q.1 q.2)))

    changer : (n : Node) (a b : Uid) (st su : ObjectState) → M.nodes 1 ≡ Some n → HasPrepared a (entry x) st n.disk.names →
        HasPrepared b (entry x) su n.disk.names → a ≡ b
    changer n a b st su is p q = let e : SeesEntry x n.disk.names W.disk = s.entry n is in
        number_tells a b (ap (λ (h : Hold). h.top) (some_is (e.pair.held_by a p.0 st p.1 p.2) (e.pair.held_by b q.0 su q.1 q.2)))

    rises : (m : Node) (j : ℕ) (a : Uid) (st su : ObjectState) → M.nodes j ≡ Some m → held_at (object x) m.disk.store ≡ Some st →
        HasPrepared a (object x) su m.disk.store → Below (packed st) (packed su)
    rises m j a st su there held p = let o : SeesStore x j m.disk.store W.disk = s.stores j m there in
        s.whole.core.forms.below j (hold_of packed a su) (packed st) (o.pair.held_by a p.0 su p.1 p.2)
        (sym o.pair.held_is ∙ ap (option_map packed) held)

pub copies_agree : (x : ℕ) (tops : Kinds) (W : World) (M : Seen) → SeesDisks x tops W M → CopiesAgree x M
copies_agree x tops W M s = (disk.last W.disk, agrees_on x tops W M s)
