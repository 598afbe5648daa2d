-- Naming at node 1 is told an end: the entries that it aborts, the action's own and those of constituents, are of no decided top.
use Rattle.arj_law_parts.proofs.Words
use Words.{◌≡◌, ◌⊎◌, ◌∙◌, ◌++◌, ◌&&◌, ℕ, Bool, true, false, cond, not, List, [], ◌∷◌, map, Some, refl, sym, ap, subst, inl, inr, ⊎_elim}
use Words.{Contains, AllByRecursion, flat_map, list_any, and_parts, or_cases, uid_is, uid_same, in_filter, in_from, in_to, which, End}
use Words.{Message, ObjectState, Row, Uid, first_uid, is_held_by, is_on, last_uid, uid_eq, uids_of, last_end, Abort, Commit, Did, Disk}
use Words.{Effect, Say, did_nothing, is_prepared, Named, Naming, end_entries, end_lines, end_orphans, has_locks, loses, loses_row, orphans}
use Words.{own_entries, taken_end, told_new, Parts, ack_told, store_told, AreAll, is_server_effect, Node, Post, Seen}
use Words.list
use Words.body
use Words.ending
use Words.kind
use Words.part
use Words.role
use Words.naming
use Rattle.arj_law_promise.proofs.Terms
use Terms.{Action, act_of, told_by, IsGoodOf, In, up, Up, Walks, walks_both, walks_to, book, is_decided, IsAlikeOf, IsSaid, HasAcked}
use Terms.{IsPartOf, ArePastIn, some_is}
use Rattle.arj_law_disk_view.proofs.running.Holders.{constituent}
use Rattle.arj_law_disk_view.specs.running.Places.{AreEntryRows, AreNamesRows, IsEntryRow}
use Rattle.arj_law_promise.proofs.settling
use settling.{ConfirmCases.IsCalmBut, ConfirmParts.quiet_calm, Confirms.IsConfirming, Confirms.IsNamesNode, Cores.IsDone, Milds.here_is}
use settling.{Milds.the_node, Parts.last_in, Steps.Either, Steps.down_either, Steps.up_either, Unserial.serial_undecided}
use settling.ConfirmKnown.{AllKnown, IsNaming, naming_here, told_acked}
use settling.ConfirmTells.{D, Fits, L, Sends, acks_it, done, fits_ack, fits_both, fits_server, fits_store, first, sent_walk, sorted, stops}
use settling.ConfirmTells.{told_confirms, told_node, told_left}
use settling.Trails.{Down, UpBy, Went, went}
use Rattle.arj_law_serial.proofs.whole.AckWalks.{all_at}

never : {P : Type 0} {b : Bool} → b ≡ true → b ≡ false → P
never {P} {b} holds fails = let no_way : true ≡ false = sym holds ∙ fails in absurd (cc no_way)

on_one : (w u : Uid) → is_on (w ∷ []) u ≡ true → w ≡ u
on_one w u on = ⊎_elim (λ same. uid_is w u same) (λ none. absurd (cc none)) (or_cases (uid_eq w u) false on)

module _ (k : ℕ) (d : Disk) (t : Parts) (M : Seen) (right : IsNaming (up k d t M)) (from : ℕ) (m : Message)
    (there : In (record { from = from; to = k; message = m }) M.sent) (e : ℕ) (u : Uid) (how : End)
    (last : last_end (told_by m) ≡ Some (u, how)) (n : Naming) (named : t.naming ≡ Some n) where
  abbrev Start : Seen
  Start = up k d t M

  good : IsGoodOf right.0.1.0 Start
  good = right.0.1.1

  past : ArePastIn right.0.1.0 Start
  past = right.0.1.2.0.0.0

  alike : IsAlikeOf right.0.1.0 Start
  alike = right.0.1.2.1.1.1

  abbrev post : Post
  post = record { from = from; to = k; message = m }

  its_here : Start.nodes k ≡ Some (the_node k d (Some t))
  its_here = here_is k d (Some t) M

  one : k ≡ 1
  one = naming_here Start right.0 k (the_node k d (Some t)) t n its_here refl named

  node : IsNamesNode Start (the_node k d (Some t))
  node = let core = right.1 in core.node (the_node k d (Some t)) (ap Start.nodes (sym one) ∙ its_here)

  -- a decided top of which, or of whose serializing action, an abort is told has nothing prepared
  undone : (w x : Uid) → Contains {X = Uid × End} (told_by m) (w, ending.Abort) → IsPartOf right.0.1.0 x w → is_prepared x d.names ≡ true →
      IsDone Start x → ⊥
  undone w x told part on is =
      let core = right.1 in
      let q = node in
      let f = q.held x on in
      let acked = told_acked Start right.0 post w x there one told part f.1.0 (core.recorded x f.1 is) in
      never on (q.acked x acked is f.1)

  -- ---- who loses its rows

  rows : AreEntryRows right.0.1.0 n.objects
  rows =
      subst (AreNamesRows right.0.1.0) named (let p = past.nodes k (the_node k d (Some t)) its_here in let z = p.live t refl in z.entries)

  lost_row : (x : Uid) → uid_eq x u ≡ false → is_prepared x d.names ≡ true → IsDone Start x → (r : Row) → IsEntryRow right.0.1.0 r →
      loses u x r ≡ true → ⊥
  lost_row x other on is r (inl f) l =
      let p = and_parts (is_held_by x r) (is_on r.holder u) l in
      let held : f.0 ≡ x = sym (ap last_uid f.2) ∙ uid_is (last_uid r.holder) x p.0 in
      let same : f.0 ≡ u = on_one f.0 u (ap (λ us. is_on us u) (sym f.2) ∙ p.1) in
      never (ap (λ w. uid_eq w u) (sym held) ∙ ap (λ w. uid_eq w u) same ∙ uid_same u) other
  lost_row x other on is r (inr f) l = ⊎_elim
      (λ root. by how refl (uid_is (act_of s.0) u root))
      (λ itself. never (ap (λ w. uid_eq w u) (sym held ∙ on_one (act_of f.0) u itself) ∙ uid_same u) other)
      (or_cases (uid_eq (act_of s.0) u) (is_on (act_of f.0 ∷ []) u) (ap (λ us. is_on us u) (sym path) ∙ p.1))
    where
      p : (is_held_by x r ≡ true) × (is_on r.holder u ≡ true)
      p = and_parts (is_held_by x r) (is_on r.holder u) l

      s : (a : Action) × Contains right.0.1.0 a × (a.kind ≡ kind.Serial) × (uids_of (let z = f.0 in z.path) ≡ act_of a ∷ act_of f.0 ∷ [])
      s = let z = constituent right.0.1.0 good.begun f.0 f.1 f.2 in (z.0, z.1, z.2, z.3)

      path : r.holder ≡ act_of s.0 ∷ act_of f.0 ∷ []
      path = f.3 ∙ s.3

      held : act_of f.0 ≡ x
      held = sym (ap last_uid path) ∙ uid_is (last_uid r.holder) x p.0

      its_part : act_of s.0 ≡ u → IsPartOf right.0.1.0 x u
      its_part same = inr (f.0, f.1, held, f.2, ap first_uid s.3 ∙ same)

      by : (h : End) → how ≡ h → act_of s.0 ≡ u → ⊥
      by ending.Abort is_it same = undone u x
          (subst (λ z. Contains {X = Uid × End} (told_by m) (u, z)) is_it (last_in (told_by m) (u, how) last)) (its_part same) on is
      by ending.Commit is_it same =
          let w = alike.2 in
          let c = w.posts post there in
          let decided : IsSaid (book M.lines) u how = all_at (λ (z : Uid × End). IsSaid (book M.lines) z.0 z.1) (told_by m) (u, how) c.1
          (in_from (u, how) (told_by m) (last_in (told_by m) (u, how) last)) in
          serial_undecided right.0.1.0 Start alike s.0 s.1 s.2
          (ap (is_decided (book M.lines)) same ∙ subst (IsSaid (book M.lines) u) is_it decided)

  found : (x : Uid) → uid_eq x u ≡ false → is_prepared x d.names ≡ true → IsDone Start x → (objects : List (ℕ × Named)) →
      AreEntryRows right.0.1.0 objects → list_any (λ (z : ℕ × Named). list_any (loses u x) z.1.rows) objects ≡ true → ⊥
  found x other on is [] all any = cc any
  found x other on is (z ∷ zs) all any = ⊎_elim
      (λ now. let w = which (loses u x) (let o = z.1 in o.rows) now in
      lost_row x other on is w.0 (all.0 w.0 (in_to w.0 (let o = z.1 in o.rows) w.1)) w.2)
      (λ later. found x other on is zs all.1 later)
      (or_cases (list_any (loses u x) (let o = z.1 in o.rows)) (list_any (λ (y : ℕ × Named). list_any (loses u x) y.1.rows) zs) any)

  -- ---- lines

  abbrev Fine : List Effect → Type 0
  Fine es = AllByRecursion (Fits k d t M right from m there e u how last) es

  abbrev Undone : Uid → Type 0
  Undone x = IsDone Start x → ⊥

  ends_fine : (x : Uid) → Undone x → Fine (end_entries x ending.Abort)
  ends_fine x none = (stops k d t M right from m there e u how last (Abort role.Names x) tt, (none, tt))

  own_fine : Fine (own_entries u how d.names)
  own_fine = by (is_prepared u d.names) refl how refl
    where
      by : (b : Bool) → is_prepared u d.names ≡ b → (h : End) → how ≡ h → Fine (cond b (end_entries u h) [])
      by true on ending.Commit is = (stops k d t M right from m there e u how last (Commit role.Names u) tt, (tt, tt))
      by true on ending.Abort is = ends_fine u
          (undone u u (subst (λ z. Contains {X = Uid × End} (told_by m) (u, z)) is (last_in (told_by m) (u, how) last)) (inl refl) on)
      by false off h is = tt

  orphans_fine : (xs : List Uid) → ((x : Uid) → list.In x xs → Undone x) → Fine (flat_map (λ act. end_entries act ending.Abort) xs)
  orphans_fine [] none = tt
  orphans_fine (x ∷ xs) none = fits_both k d t M right from m there e u how last (end_entries x ending.Abort)
      (flat_map (λ act. end_entries act ending.Abort) xs) (ends_fine x (none x (inl refl))) (orphans_fine xs (λ y i. none y (inr i)))

  orphan_undone : (x : Uid) → list.In x (orphans u d.names n) → Undone x
  orphan_undone x i is =
      let f = in_filter (λ act. not (uid_eq act u) && loses_row u act n) x
      (map (λ (p : Uid × List ObjectState). p.0) (let p = d.names in p.pend)) i in
      let p = and_parts (not (uid_eq x u)) (loses_row u x n) f.1 in
      found x (off (uid_eq x u) p.0)
      (of_pend (let q = d.names in q.pend) (let h = first k d t M right from m there e u how last in h.each) f.0) is n.objects rows p.1
    where
      off : (b : Bool) → not b ≡ true → b ≡ false
      off true z = absurd (cc z)
      off false z = refl

      of_pend : (ps : List (Uid × List ObjectState)) → AllByRecursion (λ (z : Uid × List ObjectState). is_prepared z.0 d.names ≡ true) ps →
          list.In x (map (λ (p : Uid × List ObjectState). p.0) ps) → is_prepared x d.names ≡ true
      of_pend [] all none = absurd none
      of_pend (z ∷ ps) all (inl same) = subst (λ y. is_prepared y d.names ≡ true) same all.0
      of_pend (z ∷ ps) all (inr j) = of_pend ps all.1 j

  rest_fine : (told : Bool) → Fine (cond {A = Did Naming} told (did_nothing n) (told_new u (taken_end u how n) d.names n)).outs
  rest_fine true = tt
  rest_fine false = fits_both k d t M right from m there e u how last (end_orphans u (taken_end u how n) d.names n)
      (end_lines u (taken_end u how n) n) (by (taken_end u how n)) (lines (has_locks u n))
    where
      by : (f : End) → Fine (end_orphans u f d.names n)
      by ending.Commit = tt
      by ending.Abort = orphans_fine (orphans u d.names n) orphan_undone

      lines : (b : Bool) → Fine (cond b (Say (body.Told 1 u (taken_end u how n) part.Naming) ∷ []) [])
      lines true = (tt, tt)
      lines false = tt

  told_fine : Fine (naming.told u how d.names n).outs
  told_fine = fits_both k d t M right from m there e u how last (own_entries u how d.names) _ own_fine (rest_fine (is_on n.told u))

  -- ---- the walk

  module _ (v : Parts) (same : v.coord ≡ t.coord) (moved : v.naming ≡ Some (naming.told u how d.names n).part) (ack : Bool)
      (lines : List Effect) (own : AreAll (is_server_effect k) lines) where
    abbrev outs : List Effect
    outs = ((store_told k u how d.store ++ (naming.told u how d.names n).outs) ++ lines) ++ ack_told from u ack

    all_fine : Fine (((store_told k u how d.store ++ (naming.told u how d.names n).outs) ++ lines) ++ ack_told from u ack)
    all_fine = fits_both k d t M right from m there e u how last
        ((store_told k u how d.store ++ (naming.told u how d.names n).outs) ++ lines) (ack_told from u ack)
        (fits_both k d t M right from m there e u how last (store_told k u how d.store ++ (naming.told u how d.names n).outs) lines
        (fits_both k d t M right from m there e u how last (store_told k u how d.store) (naming.told u how d.names n).outs
        (fits_store k d t M right from m there e u how last) told_fine)
        (fits_server k d t M right from m there e u how last lines own)) (fits_ack k d t M right from m there e u how last ack)

    abbrev S : Post → Type 0
    S = Sends k d t M right from m there e u how last

    abbrev B : Disk → Type 0
    B = D k d t M right from m there e u how last

    abbrev A : Uid → Type 0
    A = L k d t M right from m there e u how last

    after : (Z : Seen) (w : Went k M (IsCalmBut A) S (Either B v) Z) → ((y : Uid) → HasAcked Z.sent y 1 →
        HasAcked M.sent y 1 ⊎ ((y ≡ u) × (is_prepared u (let c = w.disk in c.names) ≡ false))) → IsConfirming Z
    after Z w acks = told_confirms k d t M right from m there e u how last v same Z w
        (told_node k d t M right from m there e u how last v same Z w n named moved acks)

    pub naming_walk : Walks AllKnown e k (((store_told k u how d.store ++ (naming.told u how d.names n).outs) ++ lines)
        ++ ack_told from u ack) (Up AllKnown k v) d M → Walks IsNaming e k
        (((store_told k u how d.store ++ (naming.told u how d.names n).outs) ++ lines) ++ ack_told from u ack) (Up IsNaming k v) d M
    naming_walk known =
        let left = told_left k u how d n from ack lines own (sorted k d t M right from m there e u how last) in
        walks_to (λ N. AllKnown N × (Went k M (IsCalmBut A) S (Down k M (IsCalmBut A) S (quiet_calm A) tt B) N × (N.sent ≡ M.sent)))
        IsNaming e k outs
        (λ b N. Up AllKnown k v b N × (Went k M (IsCalmBut A) S (UpBy k M (IsCalmBut A) S (quiet_calm A) tt B v) (up k b v N)
        × (b ≡ done outs d))) (Up IsNaming k v) d M
        (λ N h. (
          h.0,
          after N (down_either AllKnown IsConfirming k M (IsCalmBut A) S (quiet_calm A) tt B v N h.1.0)
              (λ y has. inl (subst (λ s. HasAcked s y 1) h.1.1 has)),
        ))
        (λ b N h. (h.0, at_end b N h.1.0 h.1.1 left.1))
        (walks_both AllKnown (λ N. Went k M (IsCalmBut A) S (Down k M (IsCalmBut A) S (quiet_calm A) tt B) N × (N.sent ≡ M.sent)) e k outs
        (Up AllKnown k v)
        (λ b N. Went k M (IsCalmBut A) S (UpBy k M (IsCalmBut A) S (quiet_calm A) tt B v) (up k b v N) × (b ≡ done outs d)) d M known
        (walks_both (Went k M (IsCalmBut A) S (Down k M (IsCalmBut A) S (quiet_calm A) tt B)) (λ N. N.sent ≡ M.sent) e k outs
        (λ b N. Went k M (IsCalmBut A) S (UpBy k M (IsCalmBut A) S (quiet_calm A) tt B v) (up k b v N)) (λ b N. b ≡ done outs d) d M
        (went k M (IsCalmBut A) S (quiet_calm A) tt B e v outs d all_fine (first k d t M right from m there e u how last, (refl, refl)))
        (sent_walk M.sent e k outs left.0 d (done outs d) refl M refl)))
      where
        at_end : (b : Disk) (N : Seen) → Went k M (IsCalmBut A) S (UpBy k M (IsCalmBut A) S (quiet_calm A) tt B v) (up k b v N) →
            b ≡ done outs d → is_prepared u (done outs d).names ≡ false → IsConfirming (up k b v N)
        at_end b N up_it is gone = after (up k b v N) w acks
          where
            w : Went k M (IsCalmBut A) S (Either B v) (up k b v N)
            w = up_either AllKnown IsConfirming k M (IsCalmBut A) S (quiet_calm A) tt B v (up k b v N) up_it

            its_disk : w.disk ≡ b
            its_disk = ap (λ (z : Node). z.disk) (some_is (sym w.here ∙ here_is k b (Some v) N))

            acks : (y : Uid) → HasAcked N.sent y 1 → HasAcked M.sent y 1 ⊎ ((y ≡ u) × (is_prepared u (let c = w.disk in c.names) ≡ false))
            acks y a = ⊎_elim
                (λ old. inl (record { post = a.post; posted = old; from = a.from; acks = a.acks }))
                (λ new. inr (
                  acks_it k d t M right from m there e u how last a.post new.1 y a.acks,
                  ap (λ (c : Disk). is_prepared u c.names) (its_disk ∙ is) ∙ gone,
                ))
                (w.back a.post a.posted)
