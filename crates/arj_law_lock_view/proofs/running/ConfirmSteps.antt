-- Whom naming confirms anew, and of whom entries are prepared: at a message that isn't for the coordinator it is the top of a Confirm that
-- is answered Yes, and no one else.
use Rattle.arj_law_parts.proofs.Words
use Words.{Contains, eqb-true, ◌≡◌, ◌⊎◌, ◌∙◌, ◌+◌, ℕ, List, [], ◌∷◌, ◌++◌, ◌==◌, Bool, true, false, cond, Option, Some, None, refl, sym, ap}
use Words.{subst, inl, inr, ⊎_elim, not, filter, map, ⊤, if◌then◌else◌, is_some, ◌&&◌, ◌||◌, option_map, flat_map, list_all, and_parts}
use Words.{or_cases, or_left, or_right, in_from, in_to, Ask, Asked, Binding, ConfirmedReply, End, Head, Message, Mode, ObjectState, Path}
use Words.{Row, Uid, asks, entry, is_on, last_uid, object, uid_eq, Reply, actor, answers, asked_by, last_end, response, top_of, top_path}
use Words.{Grants, Marks, checked, confirm, confirm_entries, confirm_new, confirms, entries_after, has_all, lock_all, lock_in, prepared_by}
use Words.{wanted, is_granted, Abort, Already, Commit, Did, Disk, Do, Effect, InDoubt, Look, Old, Pair, Prep, Prepare, PutInc, PutIntent}
use Words.{Ready, RemoveIntent, Say, Send, Served, did_nothing, held_at, holder_of, is_prepared, prepare_answer, reply, void, Counted, Live}
use Words.{Made, Named, bind_call, bind_made, bind_named, conflict_on, in_use, include_asked, is_lowered, live_above}
use Words.{live_asked, lock_lines, lower_lines, lowered, made_above, make_asked, next_server, note_made, note_named, note_other, Naming}
use Words.{end_entries, end_lines, end_orphans, is_over, listed_entry, on_counted, on_named, orphans, own_entries, told_new, Handled, Parts}
use Words.{Took, Void, ack_told, end_states, handle, handle_answer, handle_ask, handle_ends, handle_hello, handle_other, handle_told}
use Words.{holders, if_naming, is_earlier, load_by, load_held, naming_hello, naming_told, prepare_by, query_about, sends_answer, serve}
use Words.{served, store_told, with_naming, with_server, at_number, at_uid, binding_eq, AreAll, is_naming_effect, is_server_effect, Entry}
use Words.{response_reads_back, same_number, activate_own, all_both, all_flat, all_if, confirm_own, ends_own, invoke_own, vote_own}
use Words.{is_binding}
use Words.list
use Words.ask
use Words.body
use Words.confirmed
use Words.ending
use Words.loaded
use Words.message
use Words.mode
use Words.part
use Words.prepared
use Words.recorded
use Words.role
use Words.what
use Words.naming
use Words.server
use Rattle.arj_law_lock_view.proofs.Terms.{on_with, names_object, told_in, is_for_parts}
use Rattle.arj_law_lock_view.proofs.running.LeftSteps.{no_answer}
use Rattle.arj_law_parts.proofs.parts.Keys.{on_drop}
use Rattle.arj_protocol.proofs.RowSteps.{same_uid}

-- ---- effects that prepare no entries

abbrev is_unready : Effect → Bool
is_unready (Do (Prepare role.Names u states)) = false
is_unready _ = true

abbrev Unready : List Effect → Type 0
Unready outs = AreAll is_unready outs

-- effects that end entries of these alone
abbrev pub is_end_of : (Uid → Bool) → Effect → Bool
is_end_of g (Do (Commit role.Names u)) = g u
is_end_of g (Do (Abort role.Names u)) = g u
is_end_of g _ = true

-- and effects that do neither
abbrev is_calm : Effect → Bool
is_calm (Do (Prepare role.Names u states)) = false
is_calm (Do (Commit role.Names u)) = false
is_calm (Do (Abort role.Names u)) = false
is_calm _ = true

abbrev Calm : List Effect → Type 0
Calm outs = AreAll is_calm outs

all_as : (p q : Effect → Bool) → ((e : Effect) → p e ≡ true → q e ≡ true) → (outs : List Effect) → AreAll p outs → AreAll q outs
all_as p q each [] all = refl
all_as p q each (e ∷ es) all = let r = and_parts (p e) (list_all p es) all in
    both (q e) (list_all q es) (each e r.0) (all_as p q each es r.1)
  where
    both : (b c : Bool) → b ≡ true → c ≡ true → (b && c) ≡ true
    both b c x y = (λ i. x i && c) ∙ y

calm_unready : (outs : List Effect) → Calm outs → Unready outs
calm_unready = all_as is_calm is_unready each
  where
    each : (e : Effect) → is_calm e ≡ true → is_unready e ≡ true
    each (Say b) is = refl
    each (Send to z) is = refl
    each (Do Look) is = refl
    each (Do (PutInc i)) is = refl
    each (Do (Prepare role.Store u states)) is = refl
    each (Do (Prepare role.Names u states)) is = is
    each (Do (Commit r u)) is = refl
    each (Do (Abort r u)) is = refl
    each (Do (PutIntent u i)) is = refl
    each (Do (RemoveIntent u)) is = refl

calm_ends : (g : Uid → Bool) (outs : List Effect) → Calm outs → AreAll (is_end_of g) outs
calm_ends g = all_as is_calm (is_end_of g) each
  where
    each : (e : Effect) → is_calm e ≡ true → is_end_of g e ≡ true
    each (Say b) is = refl
    each (Send to z) is = refl
    each (Do Look) is = refl
    each (Do (PutInc i)) is = refl
    each (Do (Prepare r u states)) is = refl
    each (Do (Commit role.Store u)) is = refl
    each (Do (Commit role.Names u)) is = absurd (cc is)
    each (Do (Abort role.Store u)) is = refl
    each (Do (Abort role.Names u)) is = absurd (cc is)
    each (Do (PutIntent u i)) is = refl
    each (Do (RemoveIntent u)) is = refl

server_calm : (n : ℕ) (outs : List Effect) → AreAll (is_server_effect n) outs → Calm outs
server_calm n [] own = refl
server_calm n (Say b ∷ es) own = server_calm n es (and_parts (is_server_effect n (Say b)) (list_all (is_server_effect n) es) own).1
server_calm n (Send to z ∷ es) own = absurd (cc own)
server_calm n (Do w ∷ es) own = absurd (cc own)

lock_calm : (x : ℕ) (p : Path) (m : Mode) (o : Named) → Calm (lock_lines x p m o)
lock_calm x p m o = all_if is_calm (is_granted (entry x) (last_uid (top_path p)) m o.rows) []
    (Say (body.Granted 1 (last_uid (top_path p)) (entry x) m) ∷ []) refl refl

bind_calm : (inc x : ℕ) (p : Path) (include : Bool) (avoid : Binding) (e : Entry) (c : Counted) →
    Calm (bind_named inc x p include avoid e c).outs
bind_calm inc x p include avoid e c = by include
  where
    made : (m : Option Made) → Calm (bind_made inc x p e c m).outs
    made (Some m) = lock_calm x p mode.Write c.named
    made None = all_both is_calm (lock_lines x p mode.Write c.named) (Say (body.Bound x (record { inc = inc; count = c.count + 1 })
        (next_server c.named.turn e.servers)) ∷ []) (lock_calm x p mode.Write c.named) refl

    live : (l : Live) (r : Option Row) → Calm (live_asked inc x p e c l r).outs
    live l (Some r) = refl
    live l None = lock_calm x p mode.Read c.named

    make : (r : Option Row) → Calm (make_asked inc x p avoid e c r).outs
    make (Some r) = refl
    make None = made (made_above avoid (at_uid (top_of p) c.named.made))

    included : (r : Option Row) → Calm (include_asked inc x p e c r).outs
    included (Some r) = refl
    included None = lock_calm x p mode.Write c.named

    call : (l : Option Live) → Calm (bind_call inc x p avoid e c l).outs
    call (Some l) = live l (conflict_on x p mode.Read c.named)
    call None = make (conflict_on x p mode.Write c.named)

    by : (b : Bool) → Calm (bind_named inc x p b avoid e c).outs
    by true = included (conflict_on x p mode.Write c.named)
    by false = call (live_above avoid c.named.live)

note_calm : (x : ℕ) (top : Uid) (b : Binding) (i : ℕ) (o : Named) → Calm (note_named x top b i o).outs
note_calm x top b i o = by (is_binding b o.recorded) (at_uid top o.made)
  where
    made : (m : Made) (e : Bool) → Calm (if e then reply o recorded.Yes else
        (record { part = lowered x top (in_use top m i o); outs = lower_lines x top o; reply = Some recorded.Yes })).outs
    made m true = refl
    made m false = all_if is_calm (is_lowered x top o) (Say (body.Lowered 1 top (entry x)) ∷ []) [] refl refl

    other : (m : Made) (e : Bool) → Calm (if e then note_made x top i o m else void o).outs
    other m true = made m m.recorded
    other m false = refl

    by : (v : Bool) (m : Option Made) → Calm (if v then reply o recorded.Yes else note_other x top b i o m).outs
    by true m = refl
    by false None = refl
    by false (Some m) = other m (binding_eq b m.binding)

-- ---- who is confirmed

-- it was confirmed before
abbrev IsKept : Naming → Naming → Type 0
IsKept n m = (u : Uid) → is_on m.confirmed u ≡ true → is_on n.confirmed u ≡ true

same_kept : (n m : Naming) → m.confirmed ≡ n.confirmed → IsKept n m
same_kept n m same u on = (λ i. is_on (sym same i) u) ∙ on

bind_kept : (p : Path) (x : ℕ) (include : Bool) (avoid : Binding) (d : Pair) (n : Naming) →
    (let r = naming.bind p x include avoid d n in IsKept n r.part × Calm r.outs)
bind_kept p x include avoid d n = by (is_over p n) (at_number x n.objects)
  where
    by : (b : Bool) (o : Option Named) → (let r = cond b (void n)
        (on_counted x (bind_named n.inc x p include avoid (listed_entry x d)) n o) in IsKept n r.part × Calm r.outs)
    by true o = (λ u on. on, refl)
    by false None = (λ u on. on, refl)
    by false (Some o) = (λ u on. on, bind_calm n.inc x p include avoid (listed_entry x d) (record { named = o; count = n.count }))

note_kept : (p : Path) (x : ℕ) (b : Binding) (i g : ℕ) (n : Naming) → (let r = naming.note p x b i g n in IsKept n r.part × Calm r.outs)
note_kept p x b i g n = by (is_over p n || not (is_some (at_number x n.objects))) (g == n.inc) (at_number x n.objects)
  where
    by : (c e : Bool) (o : Option Named) → (let r = cond c (void n) (cond e (on_named x (note_named x (top_of p) b i) n o)
        (reply n (recorded.Changed (what.Inc g n.inc)))) in IsKept n r.part × Calm r.outs)
    by true e o = (λ u on. on, refl)
    by false true None = (λ u on. on, refl)
    by false true (Some o) = (λ u on. on, note_calm x (top_of p) b i o)
    by false false o = (λ u on. on, refl)

told_kept : (u : Uid) (e : End) (d : Pair) (n : Naming) → (let r = naming.told u e d n in IsKept n r.part × Unready r.outs)
told_kept u e d n = by (is_on n.told u)
  where
    own : Unready (own_entries u e d)
    own = all_if is_unready (is_prepared u d) (end_entries u e) [] (entries e) refl
      where
        entries : (f : End) → Unready (end_entries u f)
        entries ending.Commit = refl
        entries ending.Abort = refl

    others : (f : End) → Unready (end_orphans u f d n)
    others ending.Commit = refl
    others ending.Abort = all_flat is_unready (λ act. end_entries act ending.Abort) (orphans u d n) (λ act. refl)

    new : (f : End) → Unready (told_new u f d n).outs
    new f = all_both is_unready (end_orphans u f d n) (end_lines u f n) (others f)
        (all_if is_unready (naming.has_locks u n) (Say (body.Told 1 u f part.Naming) ∷ []) [] refl refl)

    by : (b : Bool) → (let t = cond b (did_nothing n) (told_new u (naming.taken_end u e n) d n) in
        IsKept n t.part × Unready (own_entries u e d ++ t.outs))
    by true = (λ w on. on, all_both is_unready (own_entries u e d) [] own refl)
    by false = (
      λ w on. (on_drop w u n.confirmed on).1,
      all_both is_unready (own_entries u e d) (told_new u (naming.taken_end u e n) d n).outs own (new (naming.taken_end u e n)),
    )

-- who loses a row with the action
abbrev loses : Uid → Naming → Uid → Bool
loses u n w = uid_eq w u || (not (uid_eq w u) && naming.loses_row u w n)

told_ends : (g : Uid → Bool) (u : Uid) (e : End) (d : Pair) (n : Naming) → ((w : Uid) → loses u n w ≡ true → g w ≡ true) →
    (let r = naming.told u e d n in AreAll (is_end_of g) r.outs)
told_ends g u e d n each = by (is_on n.told u)
  where
    entries : (w : Uid) → g w ≡ true → (f : End) → AreAll (is_end_of g) (end_entries w f)
    entries w is ending.Commit = (λ i. is i && true)
    entries w is ending.Abort = (λ i. is i && true)

    itself : g u ≡ true
    itself = each u (or_left (uid_eq u u) _ (same_uid u))

    own : AreAll (is_end_of g) (own_entries u e d)
    own = all_if (is_end_of g) (is_prepared u d) (end_entries u e) [] (entries u itself e) refl

    lost : (ws : List Uid) → AreAll (is_end_of g)
        (flat_map (λ act. end_entries act ending.Abort) (filter (λ act. not (uid_eq act u) && naming.loses_row u act n) ws))
    lost [] = refl
    lost (w ∷ ws) = one (not (uid_eq w u) && naming.loses_row u w n) refl (lost ws)
      where
        one : (b : Bool) → (not (uid_eq w u) && naming.loses_row u w n) ≡ b → AreAll (is_end_of g)
            (flat_map (λ act. end_entries act ending.Abort) (filter (λ act. not (uid_eq act u) && naming.loses_row u act n) ws)) →
            AreAll (is_end_of g) (flat_map (λ act. end_entries act ending.Abort) (cond b (w ∷ filter (λ act. not (uid_eq act u)
            && naming.loses_row u act n) ws) (filter (λ act. not (uid_eq act u) && naming.loses_row u act n) ws)))
        one true is rest = all_both (is_end_of g) (end_entries w ending.Abort) (flat_map (λ act. end_entries act ending.Abort) (filter
            (λ act. not (uid_eq act u) && naming.loses_row u act n) ws)) (entries w (each w (or_right (uid_eq w u) _ is)) ending.Abort) rest
        one false is rest = rest

    others : (f : End) → AreAll (is_end_of g) (end_orphans u f d n)
    others ending.Commit = refl
    others ending.Abort = lost (map (λ (p : Uid × List ObjectState). p.0) d.pend)

    new : (f : End) → AreAll (is_end_of g) (told_new u f d n).outs
    new f = all_both (is_end_of g) (end_orphans u f d n) (end_lines u f n) (others f)
        (all_if (is_end_of g) (naming.has_locks u n) (Say (body.Told 1 u f part.Naming) ∷ []) [] refl refl)

    by : (b : Bool) →
        (let t = cond b (did_nothing n) (told_new u (naming.taken_end u e n) d n) in AreAll (is_end_of g) (own_entries u e d ++ t.outs))
    by true = all_both (is_end_of g) (own_entries u e d) [] own refl
    by false = all_both (is_end_of g) (own_entries u e d) (told_new u (naming.taken_end u e n) d n).outs own (new (naming.taken_end u e n))

-- ---- a Confirm

lock_kept : (xs : List ℕ) (p : Path) (n : Naming) →
    (let r = lock_all xs p n in let m = r.part in m.confirmed ≡ n.confirmed) × (let r = lock_all xs p n in Calm r.outs)
lock_kept [] p n = (refl, refl)
lock_kept (x ∷ xs) p n =
    let d = lock_in x p n (at_number x n.objects) in
    let rest = lock_kept xs p d.part in (
      rest.0 ∙ one (at_number x n.objects),
      all_both is_calm d.outs (let r = lock_all xs p d.part in r.outs) (quiet (at_number x n.objects)) rest.1,
    )
  where
    one : (o : Option Named) → (let d = lock_in x p n o in let m = d.part in m.confirmed) ≡ n.confirmed
    one None = refl
    one (Some o) = refl

    quiet : (o : Option Named) → Calm (let d = lock_in x p n o in d.outs)
    quiet None = refl
    quiet (Some o) = lock_calm x p mode.Exclude o

-- who is confirmed anew is the top, and so is whose entries are prepared, and then the answer is Yes
record IsConfirmedBy (top : Uid) (n : Naming) (r : Served Naming ConfirmedReply) : Type 0 where
  who : (u : Uid) → is_on (let m = r.part in m.confirmed) u ≡ true →
      (is_on n.confirmed u ≡ true) ⊎ ((top ≡ u) × (r.reply ≡ Some confirmed.Yes))
  readied : (u : Uid) (states : List ObjectState) → list.In (Do (Prepare role.Names u states)) r.outs →
      (top ≡ u) × (r.reply ≡ Some confirmed.Yes)
  unended : (g : Uid → Bool) → AreAll (is_end_of g) r.outs

unready_none : (outs : List Effect) → Unready outs → (u : Uid) (states : List ObjectState) →
    list.In (Do (Prepare role.Names u states)) outs → ⊥
unready_none [] quiet u states i = i
unready_none (e ∷ es) quiet u states (inl is) = let p = and_parts (is_unready e) (list_all is_unready es) quiet in
    let no_way : true ≡ false = sym p.0 ∙ ap is_unready is in cc no_way
unready_none (e ∷ es) quiet u states (inr i) = unready_none es (and_parts (is_unready e) (list_all is_unready es) quiet).1 u states i

calm_none : (outs : List Effect) → Calm outs → (u : Uid) (states : List ObjectState) → list.In (Do (Prepare role.Names u states)) outs → ⊥
calm_none outs quiet u states i = unready_none outs (calm_unready outs quiet) u states i

in_both : (e : Effect) (es fs : List Effect) → list.In e (es ++ fs) → list.In e es ⊎ list.In e fs
in_both e [] fs i = inr i
in_both e (f ∷ es) fs (inl is) = inl (inl is)
in_both e (f ∷ es) fs (inr i) = elim (in_both e es fs i) [ inl j ↦ inl (inr j) | inr j ↦ inr j ]

confirms_top : (p : Path) (grants : Grants) (excluded included : Marks) (d : Pair) (n : Naming) →
    IsConfirmedBy (top_of p) n (confirm p grants excluded included d n)
confirms_top p grants excluded included d n = by (is_over p n || not (has_all grants n))
    (is_on n.confirmed (top_of p) || is_prepared (top_of p) d) (checked p grants excluded included d n)
  where
    top : Uid
    top = top_of p

    t : Did Naming
    t = lock_all (wanted (top_of p) grants excluded d) p n

    locked : ((let m = t.part in m.confirmed) ≡ n.confirmed) × Calm t.outs
    locked = lock_kept (wanted (top_of p) grants excluded d) p n

    kept : IsKept n t.part
    kept = same_kept n t.part locked.0

    -- nothing is confirmed
    quiet : (m : Naming) (outs : List Effect) (o : Option ConfirmedReply) → IsKept n m → Calm outs →
        IsConfirmedBy top n (record { part = m; outs = outs; reply = o })
    quiet m outs o keeps none = record {
      who = λ u on. inl (keeps u on);
      readied = λ u states i. absurd (calm_none outs none u states i);
      unended = λ g. calm_ends g outs none;
    }

    -- the top is confirmed
    anew : (m : Naming) (outs : List Effect) → IsKept n m → ((g : Uid → Bool) → AreAll (is_end_of g) outs) →
        ((u : Uid) (states : List ObjectState) → list.In (Do (Prepare role.Names u states)) outs → top ≡ u) →
        IsConfirmedBy top n (record { part = confirms top m; outs = outs; reply = Some confirmed.Yes })
    anew m outs keeps unended its = record {
      who = λ u on. ⊎_elim (λ same. inr (sym same, refl)) (λ old. inl (keeps u old)) (on_with u top m.confirmed on);
      readied = λ u states i. (its u states i, refl);
      unended = unended;
    }

    ready : (states : List ObjectState) (u : Uid) (others : List ObjectState) → list.In (Do (Prepare role.Names u others))
        (t.outs ++ Do Look ∷ Do (Prepare role.Names top states) ∷ Say (body.Prepared 1 top role.Names) ∷ []) → top ≡ u
    ready states u others i = ⊎_elim (λ j. absurd (calm_none t.outs locked.1 u others j)) last (in_both (Do (Prepare role.Names u others))
        t.outs (Do Look ∷ Do (Prepare role.Names top states) ∷ Say (body.Prepared 1 top role.Names) ∷ []) i)
      where
        last : list.In (Do (Prepare role.Names u others))
            (Do Look ∷ Do (Prepare role.Names top states) ∷ Say (body.Prepared 1 top role.Names) ∷ []) → top ≡ u
        last (inl is) = absurd (cc is)
        last (inr (inl is)) = cc is
        last (inr (inr (inl is))) = absurd (cc is)
        last (inr (inr (inr j))) = absurd j

    looked : Calm (t.outs ++ Do Look ∷ [])
    looked = all_both is_calm t.outs (Do Look ∷ []) locked.1 refl

    prep : (states : List ObjectState) (q : Prep) → IsConfirmedBy top n (prepared_by top states t q)
    prep states Ready = anew t.part (t.outs ++ Do Look ∷ Do (Prepare role.Names top states) ∷ Say (body.Prepared 1 top role.Names) ∷ [])
        kept (λ g. all_both (is_end_of g) t.outs (Do Look ∷ Do (Prepare role.Names top states) ∷ Say (body.Prepared 1 top role.Names) ∷ [])
        (calm_ends g t.outs locked.1) refl) (ready states)
    prep states (Already u) = quiet t.part (t.outs ++ Do Look ∷ []) _ kept looked
    prep states (Old u v) = quiet t.part (t.outs ++ Do Look ∷ []) _ kept looked
    prep states (InDoubt u h) = quiet t.part (t.outs ++ Do Look ∷ []) _ kept looked

    entries : (states : List ObjectState) → IsConfirmedBy top n (confirm_entries top states d t)
    entries [] = anew t.part t.outs kept (λ g. calm_ends g t.outs locked.1) (λ u states i. absurd (calm_none t.outs locked.1 u states i))
    entries (e ∷ es) = prep (e ∷ es) (prepare_answer top (e ∷ es) d)

    new : (o : Option ConfirmedReply) → IsConfirmedBy top n (confirm_new p grants excluded included d n o)
    new (Some r) = quiet n [] (Some r) (λ u on. on) refl
    new None = entries (entries_after top grants excluded included d)

    by : (b c : Bool) (o : Option ConfirmedReply) → IsConfirmedBy top n (cond {A = Served Naming ConfirmedReply} b (void n)
        (cond {A = Served Naming ConfirmedReply} c (reply (confirms top n) confirmed.Yes) (confirm_new p grants excluded included d n o)))
    by true c o = quiet n [] None (λ u on. on) refl
    by false true o = anew n [] (λ u on. on) (λ g. refl) (λ u states i. absurd i)
    by false false o = new o

-- ---- a message

-- the request is a Confirm of this top, which is answered Yes
pub record IsNew (from : ℕ) (q : Option (Head × Ask)) (outs : List Effect) (u : Uid) : Type 0 where
  pub head : Head
  pub grants : Grants
  pub excluded : Marks
  pub included : Marks
  pub is : q ≡ Some (head, ask.Confirm grants excluded included)
  pub top : top_of (let h = head in h.path) ≡ u
  pub yes : list.In (Send from (response (asked_by head) (Reply.Confirmed confirmed.Yes))) outs

-- whose entries an end takes away at naming: the action's own, and those of whoever loses a row with it
abbrev pub ended_by : Option Naming → Option (Uid × End) → Uid → Bool
ended_by o None w = false
ended_by None (Some e) w = uid_eq w e.0
ended_by (Some n) (Some e) w = uid_eq w e.0 || (not (uid_eq w e.0) && naming.loses_row e.0 w n)

-- nothing is done behind what is sent
abbrev pub IsLast : List Effect → Type 0
IsLast [] = ⊤
IsLast (Send to z ∷ es) = es ≡ []
IsLast (Do w ∷ es) = IsLast es
IsLast (Say b ∷ es) = IsLast es

last_of : (es : List Effect) (to : ℕ) (z : Message) → AreAll is_naming_effect es → IsLast (es ++ Send to z ∷ [])
last_of [] to z own = refl
last_of (Say b ∷ es) to z own = last_of es to z (and_parts (is_naming_effect (Say b)) (list_all is_naming_effect es) own).1
last_of (Do w ∷ es) to z own = last_of es to z (and_parts (is_naming_effect (Do w)) (list_all is_naming_effect es) own).1
last_of (Send n w ∷ es) to z own = absurd (cc own)

-- so it is with a Confirm
abbrev pub IsSentLast : Option (Head × Ask) → List Effect → Type 0
IsSentLast (Some (h, ask.Confirm grants excluded included)) outs = IsLast outs
IsSentLast q outs = ⊤

-- who is confirmed was it before, or is so anew; so is whose entries are prepared; and whose entries end is told of
pub record IsNoted (t : Parts) (from : ℕ) (q : Option (Head × Ask)) (last : Option (Uid × End)) (v : Parts) (outs : List Effect) :
    Type 0 where
  pub who : (m : Naming) (u : Uid) → v.naming ≡ Some m → is_on m.confirmed u ≡ true →
      ((n : Naming) × (t.naming ≡ Some n) × (is_on n.confirmed u ≡ true)) ⊎ IsNew from q outs u
  pub readied : (u : Uid) (states : List ObjectState) → list.In (Do (Prepare role.Names u states)) outs → IsNew from q outs u
  pub ends : AreAll (is_end_of (ended_by t.naming last)) outs
  pub sends : IsSentLast q outs

abbrev pub Notes : Parts → ℕ → Option (Head × Ask) → Option (Uid × End) → Handled → Type 0
Notes t from q last (Void outs) = ⊤
Notes t from q last (Took v outs) = IsNoted t from q last v outs

module _ (n : ℕ) (d : Disk) (t : Parts) (from : ℕ) (last : Option (Uid × End)) where
  abbrev StaysKept : Option Naming → Type 0
  StaysKept o = (m : Naming) (u : Uid) → o ≡ Some m → is_on m.confirmed u ≡ true →
      (k : Naming) × (t.naming ≡ Some k) × (is_on k.confirmed u ≡ true)

  stays_same : StaysKept t.naming
  stays_same m u is on = (m, is, on)

  stays_one : (k m : Naming) → t.naming ≡ Some k → IsKept k m → StaysKept (Some m)
  stays_one k m is keeps z u same on = (k, is, keeps u ((λ i. is_on ((its i).confirmed) u) ∙ on))
    where
      its : m ≡ z
      its = cc same

  plain_noted : (q : Option (Head × Ask)) (v : Parts) (outs : List Effect) → StaysKept v.naming → Calm outs → IsSentLast q outs →
      IsNoted t from q last v outs
  plain_noted q v outs kept quiet sends = record {
    who = λ m u is on. inl (kept m u is on);
    readied = λ u states i. absurd (calm_none outs quiet u states i);
    ends = calm_ends (ended_by t.naming last) outs quiet;
    sends = sends;
  }

  module _ (h : Head) (a : Ask) (unsent : (outs : List Effect) → IsSentLast (Some (h, a)) outs) where
    answer_noted : (w : Parts) (outs : List Effect) (o : Option Reply) → StaysKept w.naming → Calm outs →
        Notes t from (Some (h, a)) last (sends_answer from h w outs o)
    answer_noted w outs None kept quiet = tt
    answer_noted w outs (Some r) kept quiet = plain_noted (Some (h, a)) w (outs ++ Send from (response (asked_by h) r) ∷ []) kept (all_both
        is_calm outs (Send from (response (asked_by h) r) ∷ []) quiet refl) (unsent (outs ++ Send from (response (asked_by h) r) ∷ []))

    by_server : {R : Type 0} (say : R → Reply) (r : Served server.Server R) → AreAll (is_server_effect n) r.outs →
        Notes t from (Some (h, a)) last (served from h (with_server t) say r)
    by_server say r own = answer_noted (with_server t r.part) r.outs (option_map say r.reply) stays_same (server_calm n r.outs own)

    by_naming : {R : Type 0} (o : Naming) → t.naming ≡ Some o → (say : R → Reply) (r : Served Naming R) → IsKept o r.part × Calm r.outs →
        Notes t from (Some (h, a)) last (served from h (with_naming t) say r)
    by_naming o is say r k = answer_noted (with_naming t r.part) r.outs (option_map say r.reply) (stays_one o r.part is k.0) k.1

  confirm_noted : (h : Head) (grants : Grants) (excluded included : Marks) (o : Naming) → t.naming ≡ Some o →
      Notes t from (Some (h, ask.Confirm grants excluded included)) last
      (served from h (with_naming t) Reply.Confirmed (confirm h.path grants excluded included d.names o))
  confirm_noted h grants excluded included o is = by (confirm h.path grants excluded included d.names o)
      (confirm_own h.path grants excluded included d.names o) (confirms_top h.path grants excluded included d.names o)
    where
      by : (r : Served Naming ConfirmedReply) → AreAll is_naming_effect r.outs → IsConfirmedBy (top_of h.path) o r →
          Notes t from (Some (h, ask.Confirm grants excluded included)) last (served from h (with_naming t) Reply.Confirmed r)
      by r own its = answered r.reply refl
        where
          answered : (y : Option ConfirmedReply) → r.reply ≡ y → Notes t from (Some (h, ask.Confirm grants excluded included)) last
              (sends_answer from h (with_naming t r.part) r.outs (option_map Reply.Confirmed y))
          answered None none = tt
          answered (Some y) some = record {
            who = λ m u same on. ⊎_elim (λ old. inl (o, is, old)) (λ new. inr (anew u new.0 new.1))
                (its.who u ((λ i. is_on ((one m same i).confirmed) u) ∙ on));
            readied = λ u states i.
                ⊎_elim (λ j. (let new = its.readied u states j in anew u new.0 new.1)) (λ j. absurd (⊎_elim (λ e. cc e) (λ z. z) j))
                (in_both (Do (Prepare role.Names u states)) r.outs (Send from (response (asked_by h) (Reply.Confirmed y)) ∷ []) i);
            ends = all_both (is_end_of (ended_by t.naming last)) r.outs (Send from (response (asked_by h) (Reply.Confirmed y)) ∷ [])
                (its.unended (ended_by t.naming last)) refl;
            sends = last_of r.outs from (response (asked_by h) (Reply.Confirmed y)) own;
          }
            where
              one : (m : Naming) → ◌≡◌ {A = Option Naming} (Some r.part) (Some m) → r.part ≡ m
              one m e = cc e

              at_end : (es : List Effect) (e : Effect) → list.In e (es ++ e ∷ [])
              at_end [] e = inl refl
              at_end (f ∷ es) e = inr (at_end es e)

              anew : (u : Uid) → top_of h.path ≡ u → r.reply ≡ Some confirmed.Yes → IsNew from
                  (Some (h, ask.Confirm grants excluded included)) (r.outs ++ Send from (response (asked_by h) (Reply.Confirmed y)) ∷ []) u
              anew u top done = record {
                head = h;
                grants = grants;
                excluded = excluded;
                included = included;
                is = refl;
                top = top;
                yes = subst (λ (z : ConfirmedReply). list.In (Send from (response (asked_by h) (Reply.Confirmed z)))
                    (r.outs ++ Send from (response (asked_by h) (Reply.Confirmed y)) ∷ [])) (same (sym some ∙ done))
                    (at_end r.outs (Send from (response (asked_by h) (Reply.Confirmed y))));
              }
                where
                  same : ◌≡◌ {A = Option ConfirmedReply} (Some y) (Some confirmed.Yes) → y ≡ confirmed.Yes
                  same e = cc e

  request_noted : (h : Head) (a : Ask) → Notes t from (Some (h, a)) last (serve n d t from h a)
  request_noted h (ask.Bind x include avoid) = by t.naming refl
    where
      by : (o : Option Naming) → t.naming ≡ o → Notes t from (Some (h, ask.Bind x include avoid)) last
          (if_naming (λ q. served from h (with_naming t) Reply.Bound (naming.bind h.path x include avoid d.names q)) o)
      by None is = tt
      by (Some o) is = by_naming h (ask.Bind x include avoid) (λ outs. tt) o is Reply.Bound (naming.bind h.path x include avoid d.names o)
          (bind_kept h.path x include avoid d.names o)
  request_noted h (ask.Record x b i g) = by t.naming refl
    where
      by : (o : Option Naming) → t.naming ≡ o → Notes t from (Some (h, ask.Record x b i g)) last
          (if_naming (λ q. served from h (with_naming t) Reply.Noted (naming.note h.path x b i g q)) o)
      by None is = tt
      by (Some o) is =
          by_naming h (ask.Record x b i g) (λ outs. tt) o is Reply.Noted (naming.note h.path x b i g o) (note_kept h.path x b i g o)
  request_noted h (ask.Confirm grants excluded included) = by t.naming refl
    where
      by : (o : Option Naming) → t.naming ≡ o → Notes t from (Some (h, ask.Confirm grants excluded included)) last
          (if_naming (λ q. served from h (with_naming t) Reply.Confirmed (confirm h.path grants excluded included d.names q)) o)
      by None is = tt
      by (Some o) is = confirm_noted h grants excluded included o is
  request_noted h (ask.Activate b st) = by_server h (ask.Activate b st) (λ outs. tt) Reply.Activated
      (server.activate n h.path b st t.server) (activate_own n h.path b st t.server)
  request_noted h (ask.Invoke x b i ends o) = by_server h (ask.Invoke x b i ends o) (λ outs. tt) Reply.Invoked
      (server.invoke n h x b i ends o t.server) (invoke_own n h x b i ends o t.server)
  request_noted h (ask.Vote i ties ends) = by_server h (ask.Vote i ties ends) (λ outs. tt) Reply.Voted
      (server.vote n h.path i ties ends t.server) (vote_own n h.path i ties ends t.server)
  request_noted h (ask.Load x) = load (holder_of (object x) d.store)
    where
      load : (o : Option Uid) → Notes t from (Some (h, ask.Load x)) last (load_by x d.store from h t o)
      load (Some u) = answer_noted h (ask.Load x) (λ outs. tt) t [] (Some (Reply.Loaded (loaded.InDoubt u))) stays_same refl
      load None = held (held_at (object x) d.store)
        where
          held : (o : Option ObjectState) → Notes t from (Some (h, ask.Load x)) last (load_held from h t o)
          held None = tt
          held (Some st) = answer_noted h (ask.Load x) (λ outs. tt) t (Do Look ∷ []) (Some (Reply.Loaded (loaded.State st))) stays_same refl
  request_noted h (ask.Prepare states) = by (is_prepared (actor h.path) d.store)
    where
      new : (p : Prep) → Notes t from (Some (h, ask.Prepare states)) last (prepare_by n states from h t p)
      new Ready = answer_noted h (ask.Prepare states) (λ outs. tt) t (Do Look ∷ Do (Prepare role.Store (actor h.path) states)
          ∷ Say (body.Prepared n (actor h.path) role.Store) ∷ []) (Some (Reply.Prepared prepared.Yes)) stays_same refl
      new (Already u) = tt
      new (Old u v) =
          answer_noted h (ask.Prepare states) (λ outs. tt) t (Do Look ∷ []) (Some (Reply.Prepared (prepared.Old u.num v))) stays_same refl
      new (InDoubt u holder) = answer_noted h (ask.Prepare states) (λ outs. tt) t (Do Look ∷ [])
          (Some (Reply.Prepared (prepared.InDoubt u.num holder))) stays_same refl

      by : (b : Bool) → Notes t from (Some (h, ask.Prepare states)) last (cond b (sends_answer from h t []
          (Some (Reply.Prepared prepared.Yes))) (prepare_by n states from h t (prepare_answer (actor h.path) states d.store)))
      by true = answer_noted h (ask.Prepare states) (λ outs. tt) t [] (Some (Reply.Prepared prepared.Yes)) stays_same refl
      by false = new (prepare_answer (actor h.path) states d.store)

  told_noted : (ack : Bool) (ends : List (Uid × End)) (u : Uid) (e : End) → last ≡ Some (u, e) →
      Notes t from None last (handle_told n d t from ack ends u e)
  told_noted ack ends u e is_last = record {
    who = λ m w is on. inl (kept t.naming refl m w is on);
    readied = λ w states i. absurd (unready_none outs
        (all_both is_unready ((stores ++ names) ++ servers) (ack_told from u ack) (all_both is_unready (stores ++ names) servers
        (all_both is_unready stores names (stores_quiet (is_prepared u d.store) e) (names_quiet t.naming))
        (calm_unready servers (server_calm n servers (ends_own n ends t.server)))) (acks_quiet ack)) w states i);
    ends = all_both (is_end_of g) ((stores ++ names) ++ servers) (ack_told from u ack) (all_both (is_end_of g) (stores ++ names) servers
        (all_both (is_end_of g) stores names (stores_end (is_prepared u d.store) e) (names_end t.naming refl))
        (calm_ends g servers (server_calm n servers (ends_own n ends t.server)))) (acks_end ack);
    sends = tt;
  }
    where
      stores : List Effect
      stores = store_told n u e d.store

      names : List Effect
      names = let o = naming_told u e d.names t.naming in o.outs

      servers : List Effect
      servers = let k = server.told n ends t.server in k.outs

      kept : (o : Option Naming) → t.naming ≡ o → StaysKept (let r = naming_told u e d.names o in r.part)
      kept None is = λ m w same on. absurd (cc same)
      kept (Some k) is = stays_one k (let r = naming.told u e d.names k in r.part) is (told_kept u e d.names k).0

      stores_quiet : (b : Bool) (f : End) → Unready (cond b (end_states n u f) [])
      stores_quiet true ending.Commit = refl
      stores_quiet true ending.Abort = refl
      stores_quiet false f = refl

      names_quiet : (o : Option Naming) → Unready (let r = naming_told u e d.names o in r.outs)
      names_quiet None = refl
      names_quiet (Some m) = (told_kept u e d.names m).1

      acks_quiet : (b : Bool) → Unready (ack_told from u b)
      acks_quiet true = refl
      acks_quiet false = refl

      outs : List Effect
      outs = ((stores ++ names) ++ servers) ++ ack_told from u ack

      g : Uid → Bool
      g = ended_by t.naming last

      stores_end : (b : Bool) (f : End) → AreAll (is_end_of g) (cond b (end_states n u f) [])
      stores_end true ending.Commit = refl
      stores_end true ending.Abort = refl
      stores_end false f = refl

      names_end : (o : Option Naming) → t.naming ≡ o → AreAll (is_end_of g) (let r = naming_told u e d.names o in r.outs)
      names_end None is = refl
      names_end (Some m) is = told_ends g u e d.names m (λ w lost. (λ i. ended_by (is i) (is_last i) w) ∙ lost)

      acks_end : (b : Bool) → AreAll (is_end_of g) (ack_told from u b)
      acks_end true = refl
      acks_end false = refl

  hello_noted : (node inc : ℕ) → Notes t from None last (handle_hello d t node inc)
  hello_noted node inc = plain_noted None (record t { naming = naming_hello node inc t.naming }) (map query_about
      (filter (is_earlier node inc) (holders d t))) (kept t.naming refl) (quiet (filter (is_earlier node inc) (holders d t))) tt
    where
      kept : (o : Option Naming) → t.naming ≡ o → StaysKept (naming_hello node inc o)
      kept None is = λ m w same on. absurd (cc same)
      kept (Some k) is = stays_one k (naming.hello node inc k) is (λ w on. on)

      quiet : (us : List Uid) → Calm (map query_about us)
      quiet [] = refl
      quiet (u ∷ us) = quiet us

  ends_noted : (ack : Bool) (ends : List (Uid × End)) (o : Option (Uid × End)) → last ≡ o →
      Notes t from None last (handle_ends n d t from ack ends o)
  ends_noted ack ends None is = plain_noted None t [] stays_same refl tt
  ends_noted ack ends (Some e) is = told_noted ack ends e.0 e.1 is

  other_noted : (m : Message) → is_for_parts m ≡ true → last ≡ last_end (told_in m) → Notes t from None last (handle_other n d t from m)
  other_noted (message.Told m) mine is = ends_noted m.ack m.ends (last_end m.ends) is
  other_noted (message.Hello m) mine is = hello_noted m.node m.inc
  other_noted (message.Acked m) mine is = absurd (cc mine)
  other_noted (message.Query m) mine is = absurd (cc mine)
  other_noted _ mine is = tt

  pub message_noted : (m : Message) → is_for_parts m ≡ true → last ≡ last_end (told_in m) → Notes t from (asks m) last (handle n d t from m)
  message_noted m mine is_last = by (asks m)
    where
      answer : (o : Option (Asked × Reply)) → answers m ≡ o → Notes t from None last (handle_answer n d t from m o)
      answer None is = other_noted m mine is_last
      answer (Some r) is = absurd (let no_way : true ≡ false = sym mine ∙ no_answer m r is in cc no_way)

      by : (q : Option (Head × Ask)) → Notes t from q last (handle_ask n d t from m q)
      by None = answer (answers m) refl
      by (Some q) = request_noted q.0 q.1

-- ---- what is answered

-- an answer that reads Yes is Yes
pub yes_alone : (a : Asked) (r : Reply) → response a (Reply.Confirmed confirmed.Yes) ≡ response a r → r ≡ Reply.Confirmed confirmed.Yes
yes_alone a r same = sym (ap (λ (z : Asked × Reply). z.1) (one (ap answers same ∙ response_reads_back a r)))
  where
    one : ◌≡◌ {A = Option (Asked × Reply)} (Some (a, Reply.Confirmed confirmed.Yes)) (Some (a, r)) →
        ◌≡◌ {A = Asked × Reply} (a, Reply.Confirmed confirmed.Yes) (a, r)
    one e = cc e

-- what names the object has a grant of it
pub named_grant : (x : ℕ) (grants : Grants) → names_object x grants ≡ true → (g : ℕ) × Contains {X = ℕ × ℕ} grants (x, g)
named_grant x [] names = absurd (cc names)
named_grant x ((y, g) ∷ gs) names = ⊎_elim
    (λ same. (g, in_to {X = ℕ × ℕ} (x, g) ((y, g) ∷ gs) (inl (ap (λ (z : ℕ). (z, g)) (eqb-true y x same)))))
    (λ rest. (let h = named_grant x gs rest in (h.0, in_to {X = ℕ × ℕ} (x, h.0) ((y, g) ∷ gs) (inr (in_from {X = ℕ × ℕ} (x, h.0) gs h.1)))))
    (or_cases (y == x) (names_object x gs) names)

-- and what has a grant of it names it
pub named_by : (x g : ℕ) (grants : Grants) → Contains {X = ℕ × ℕ} grants (x, g) → names_object x grants ≡ true
named_by x g [] given = absurd (in_from {X = ℕ × ℕ} (x, g) [] given)
named_by x g (h ∷ gs) given = ⊎_elim
    (λ same. or_left (h.0 == x) (names_object x gs) (ap (λ (z : ℕ × ℕ). z.0 == x) same ∙ same_number x))
    (λ rest. or_right (h.0 == x) (names_object x gs) (named_by x g gs (in_to {X = ℕ × ℕ} (x, g) gs rest)))
    (in_from {X = ℕ × ℕ} (x, g) (h ∷ gs) given)
