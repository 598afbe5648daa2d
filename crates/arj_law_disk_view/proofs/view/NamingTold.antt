-- An end that naming is told, walked through.
use Rattle.arj_law_parts.proofs.Words
use Words.{◌≡◌, ◌⊎◌, ℕ, ◌==◌, List, [], ◌∷◌, ◌++◌, Bool, true, false, cond, Option, Some, None, refl, sym, ◌∙◌, ap, subst, inl, inr, ⊎_elim}
use Words.{is_eq, Ordering, Less, Equal, Greater, ⊤, if◌then◌else◌, not, filter, AllByRecursion, flat_map, append_assoc, uid_cases, Uid}
use Words.{End, uid_eq, uid_order, is_on, Disk, did_nothing, Pair, Effect, Say, Do, Commit, Abort, Before, After, InPart, is_prepared}
use Words.{pair_committed, pair_aborted, pair_in_part, Naming, has_locks, end_entries, end_lines, end_orphans, orphans, own_entries}
use Words.{taken_end, told_new, Parts, Took, handle_told, naming_told, store_told, ack_told, at_uid, uid_number, without_uid, AreAll, Node}
use Words.{numbered, ends_own, number_tells, Post, Seen}
use Words.body
use Words.ending
use Words.message
use Words.part
use Words.role
use Words.naming
use Words.server
use Rattle.arj_law_disk_view.proofs.Terms
use Terms.{World, IsNot, after, run, State, Hold, In, never, never_some, or_cases, or_left, or_right, test_same, run_keeps, up, said}
use Terms.{posted, Walks, Stops, Up, AreOrphansOf, SeesRecords, SeesEntry, EntryGoes, SeesStore, ClaimsCommit, may_note, Kinds, ClaimsEnd}
use Terms.{ClaimsLast, SeesDisks, SeesCoord, SeesNotes, SeesDown, SeesConfirmed, IsLater, IsSeenByDisks, Acks}
use Terms.machine
use Terms.mail
use Rattle.arj_law_disk_view.proofs.view
use view.{Along.along_goes, Along.plain_only, Halts.stops_seen, StoreWalks.took_is}
use view.EntrySteps.{entries_commit, entries_stop_in_part, entries_abort, entries_forget, stores_by_entry}
use view.Frames.{nodes_to, node_here, claim_here, coord_same, down_same, says_seen, posts_seen, sends_seen}
use view.HeardWalks.{is_say, say_walk}
use view.Later.{effects_are_later, end_stays, later_same, later_on}
use view.Notes.{all_to, fixed_later, notes_later}
use view.StoreSteps.{prepared_is, unprepared}
use view.ToldWalks.{parts_seen, lines_walk, holds_not, store_walks}
use Rattle.arj_law_disk_view.specs.view.Coordinating.{NamingIsTold}
use Rattle.arj_law_disk_view.proofs.view.Keys as keys

-- ---- an entry's work

module _ (x : ℕ) (tops : Kinds) (W : World) (M : Seen) (d : Disk) (t : Parts) (sees : SeesDisks x tops W (up 1 d t M)) (c : Pair)
    (goes : EntryGoes x c W) where
  abbrev V : World
  V = run W goes.effects

  goes_later : IsLater W V
  goes_later = effects_are_later W goes.effects goes.allowed sees.whole

  begun_same : V.disk.begun ≡ W.disk.begun
  begun_same = ap (λ (S : State). S.begun) goes.only.rest

  stage_same : V.disk.stage ≡ W.disk.stage
  stage_same = ap (λ (S : State). S.stage) goes.only.rest

  to : (Q R : ℕ → Node → Type 0) → ((m : ℕ) (n : Node) → (up 1 d t M).nodes m ≡ Some n → Q m n) →
      (Q 1 (record { number = 1; disk = d; live = Some t }) → R 1 (record { number = 1; disk = record d { names = c }; live = Some t })) →
      ((m : ℕ) (n : Node) → (m == 1) ≡ false → Q m n → R m n)
      → (m : ℕ) (n : Node) → (up 1 (record d { names = c }) t M).nodes m ≡ Some n → R m n
  to Q R each mine others = nodes_to M 1 (record { number = 1; disk = d; live = Some t })
      (record { number = 1; disk = record d { names = c }; live = Some t }) Q R each mine others

  records_go : (m : ℕ) (n : Node) → SeesRecords m n.disk.intents W.disk → SeesRecords m n.disk.intents V.disk
  records_go m n s =
      subst (λ (S : State). SeesRecords m n.disk.intents S) (sym goes.only.rest) (record { sorted = s.sorted; own = s.own; is = s.is })

  coord_goes : (m inc : ℕ) (p : Parts) → SeesCoord x m inc tops p.coord W.disk → SeesCoord x m inc tops p.coord V.disk
  coord_goes m inc p s = coord_same x m inc tops p.coord W.disk V.disk stage_same begun_same (ap (λ (S : State). S.plan) goes.only.rest)
      (ap (λ (S : State). S.got) goes.only.rest) (ap (λ (S : State). S.bare) goes.only.rest) s

  confirmed_goes : (o : Naming) → SeesConfirmed o W.disk → SeesConfirmed o V.disk
  confirmed_goes o s = subst (λ (S : State). SeesConfirmed o S) (sym goes.only.rest) s

  pub entry_goes_seen : SeesDisks x tops V (up 1 (record d { names = c }) t M)
  entry_goes_seen = record {
    whole = run_keeps W goes.effects goes.allowed sees.whole;
    along = along_goes tops.walk W goes.effects goes.allowed (plain_only (may_note tops.walk) goes.effects goes.plain) sees.along;
    fixed = fixed_later tops W V goes_later sees.fixed;
    kinds = λ z b. let r = sees.kinds z (ap (λ f. f z) (sym begun_same) ∙ b) in (r.0, ap (λ (S : State). S.serial z) goes.only.rest ∙ r.1);
    stores = to (λ m n. SeesStore x m n.disk.store W.disk) (λ m n. SeesStore x m n.disk.store V.disk) sees.stores
        (λ s. stores_by_entry x 1 d.store W V goes.only s) (λ m n e s. stores_by_entry x m n.disk.store W V goes.only s);
    entry = λ n is. to (λ m n. ⊤) (λ m n. m ≡ 1 → SeesEntry x n.disk.names V.disk) (λ m n found. tt) (λ s one. goes.there)
        (λ m n e s one. absurd (never (ap (λ j. j == 1) one ∙ test_same 1) e)) 1 n is refl;
    records = to (λ m n. SeesRecords m n.disk.intents W.disk) (λ m n. SeesRecords m n.disk.intents V.disk) sees.records
        (λ s. records_go 1 (record { number = 1; disk = d; live = Some t }) s) (λ m n e s. records_go m n s);
    coords = λ m n p is live. to (λ m n. (p : Parts) → n.live ≡ Some p → SeesCoord x m n.disk.inc tops p.coord W.disk) (λ m n. (p : Parts) →
        n.live ≡ Some p → SeesCoord x m n.disk.inc tops p.coord V.disk) (λ m n found p live. sees.coords m n p found live)
        (λ s p live. coord_goes 1 d.inc p (s p live)) (λ m n e s p live. coord_goes m n.disk.inc p (s p live)) m n is p live;
    notes = λ m n p is live. to (λ m n. (p : Parts) → n.live ≡ Some p → SeesNotes x n.disk.intents p.coord W) (λ m n. (p : Parts) →
        n.live ≡ Some p → SeesNotes x n.disk.intents p.coord V) (λ m n found p live. sees.notes m n p found live)
        (λ s p live. notes_later x W V goes_later d.intents p.coord (s p live))
        (λ m n e s p live. notes_later x W V goes_later n.disk.intents p.coord (s p live)) m n is p live;
    downs = to (λ m n. n.live ≡ None → SeesDown m n.disk.inc W.disk) (λ m n. n.live ≡ None → SeesDown m n.disk.inc V.disk)
        (λ m n found live. sees.downs m n found live) (λ s live. down_same 1 d.inc W.disk V.disk stage_same begun_same (s live))
        (λ m n e s live. down_same m n.disk.inc W.disk V.disk stage_same begun_same (s live));
    confirmed = λ n p o is live named. to (λ m n. m ≡ 1 → (p : Parts) (o : Naming) → n.live ≡ Some p → p.naming ≡ Some o →
        SeesConfirmed o W.disk) (λ m n. m ≡ 1 → (p : Parts) (o : Naming) → n.live ≡ Some p → p.naming ≡ Some o → SeesConfirmed o V.disk)
        (λ m n found one p o live named. sees.confirmed n p o (ap (λ j. (up 1 d t M).nodes j) (sym one) ∙ found) live named)
        (λ s one p o live named. confirmed_goes o (s one p o live named))
        (λ m n e s one p o live named. confirmed_goes o (s one p o live named)) 1 n is refl p o live named;
    posts = λ p i. claim_here x tops W V M.lines p sees.whole goes_later (sees.posts p i);
  }

-- ---- one action's entries end

-- what isn't there isn't taken out
pub without_none : {X : Type 0} (u : Uid) (m : List (Uid × X)) → at_uid u m ≡ None → without_uid u m ≡ m
without_none u [] none = refl
without_none {X} u (z ∷ zs) none = by (uid_order u z.0) refl (without_none u zs)
  where
    by : (o : Ordering) → uid_order u z.0 ≡ o → (at_uid u zs ≡ None → without_uid u zs ≡ zs) → without_uid u (z ∷ zs) ≡ z ∷ zs
    by Less is ih = rw is (λ i. z ∷ ih (sym (ap (λ o. cond (is_eq o) (Some z.1) (at_uid u zs)) is) ∙ none) i)
    by Greater is ih = rw is (λ i. z ∷ ih (sym (ap (λ o. cond (is_eq o) (Some z.1) (at_uid u zs)) is) ∙ none) i)
    by Equal is ih = absurd (never_some (ap (λ a. at_uid a (z ∷ zs)) (keys.order_exact u z.0 is) ∙ keys.at_here z.0 z.1 zs) none)

module _ (x : ℕ) (tops : Kinds) (e : ℕ) (t v : Parts) where
  abbrev P : Seen → Type 0
  P = IsSeenByDisks x tops

  -- what goes on behind: with other entries, none of the action, in a later world
  abbrev Behind : Disk → World → Uid → List Effect → Type 0
  Behind d W0 u rest = (c : Pair) (M : Seen) (W : World) → IsLater W0 W → SeesDisks x tops W (up 1 (record d { names = c }) t M) →
      at_uid u c.pend ≡ None → Walks P e 1 rest (Up P 1 v) (record d { names = c }) M

  entry_at : (d : Disk) (M : Seen) (W : World) → SeesDisks x tops W (up 1 d t M) → SeesEntry x d.names W.disk
  entry_at d M W s =
      s.entry (record { number = 1; disk = d; live = Some t }) (node_here M 1 (record { number = 1; disk = d; live = Some t }))

  -- an abort of an action's entries, which the machine makes
  drops : (d : Disk) (u : Uid) (rest : List Effect) (M : Seen) (W : World) → SeesDisks x tops W (up 1 d t M) →
      EntryGoes x (pair_aborted u d.names) W
      → ((N : Seen) (V : World) → IsLater W V → SeesDisks x tops V (up 1 (record d { names = pair_aborted u d.names }) t N) →
      Walks P e 1 rest (Up P 1 v) (record d { names = pair_aborted u d.names }) N)
      → Walks P e 1 (Do (Abort role.Names u) ∷ Say (body.Done 1 u role.Names ending.Abort) ∷ rest) (Up P 1 v) d M
  drops d u rest M W s goes go = (
    stops,
    go (said e (body.Done 1 u role.Names ending.Abort ∷ []) M) (run W goes.effects) (effects_are_later W goes.effects goes.allowed s.whole)
        (says_seen x tops (run W goes.effects) (up 1 (record d { names = pair_aborted u d.names }) t M)
        (numbered e (body.Done 1 u role.Names ending.Abort ∷ [])) seen),
  )
    where
      seen : SeesDisks x tops (run W goes.effects) (up 1 (record d { names = pair_aborted u d.names }) t M)
      seen = entry_goes_seen x tops W M d t s (pair_aborted u d.names) goes

      stops : Stops P e 1 (Abort role.Names u) d M
      stops Before = stops_seen x tops e 1 d (Some t) M (W, s)
      stops After = stops_seen x tops e 1 (record d { names = pair_aborted u d.names }) (Some t) M (run W goes.effects, seen)
      stops (InPart which) = stops_seen x tops e 1 d (Some t) M (W, s)

  moves : (d : Disk) (u : Uid) (rest : List Effect) (M : Seen) (W : World) → SeesDisks x tops W (up 1 d t M) → ClaimsCommit W u 1 →
      is_prepared u d.names ≡ true
      → ((N : Seen) (V : World) → IsLater W V → SeesDisks x tops V (up 1 (record d { names = pair_committed u d.names }) t N) →
      Walks P e 1 rest (Up P 1 v) (record d { names = pair_committed u d.names }) N)
      → Walks P e 1 (Do (Commit role.Names u) ∷ Say (body.Done 1 u role.Names ending.Commit) ∷ rest) (Up P 1 v) d M
  moves d u rest M W s claims is go = (
    stops,
    go (said e (body.Done 1 u role.Names ending.Commit ∷ []) M) (run W goes.effects) (effects_are_later W goes.effects goes.allowed s.whole)
        (says_seen x tops (run W goes.effects) (up 1 (record d { names = pair_committed u d.names }) t M)
        (numbered e (body.Done 1 u role.Names ending.Commit ∷ [])) seen),
  )
    where
      goes : EntryGoes x (pair_committed u d.names) W
      goes = entries_commit x d.names W u s.whole.core.bare (entry_at d M W s) claims is

      seen : SeesDisks x tops (run W goes.effects) (up 1 (record d { names = pair_committed u d.names }) t M)
      seen = entry_goes_seen x tops W M d t s (pair_committed u d.names) goes

      stops : Stops P e 1 (Commit role.Names u) d M
      stops Before = stops_seen x tops e 1 d (Some t) M (W, s)
      stops After = stops_seen x tops e 1 (record d { names = pair_committed u d.names }) (Some t) M (run W goes.effects, seen)
      stops (InPart which) =
          let part : EntryGoes x (pair_in_part which u d.names) W = entries_stop_in_part x d.names W u which s.whole.core.bare
          (entry_at d M W s) claims is in
          stops_seen x tops e 1 (record d { names = pair_in_part which u d.names }) (Some t) M
          (run W part.effects, entry_goes_seen x tops W M d t s (pair_in_part which u d.names) part)

  -- who has an entry prepared is a top, and no serializing action
  prepared_kind : (d : Disk) (M : Seen) (W : World) (u : Uid) → SeesDisks x tops W (up 1 d t M) → is_prepared u d.names ≡ true →
      (tops.is_top (uid_number u) ≡ true) × (W.disk.serial (uid_number u) ≡ false)
  prepared_kind d M W u s is = let q = prepared_is u d.names is in s.kinds (uid_number u) ((entry_at d M W s).begun u q.0 q.1)

  own_walks : (d : Disk) (u : Uid) (how : End) (rest : List Effect) (M : Seen) (W : World) → SeesDisks x tops W (up 1 d t M) →
      ClaimsEnd tops W 1 (u, how) → Behind d W u rest → Walks P e 1 (own_entries u how d.names ++ rest) (Up P 1 v) d M
  own_walks d u how rest M W s claims go = by (is_prepared u d.names) refl
    where
      gone : at_uid u (without_uid u d.names.pend) ≡ None
      gone = keys.without_same u d.names.pend (let z = entry_at d M W s in z.pair.sorted)

      dropped : In (mail.ToldAbort (uid_number u) 1) W.sent → is_prepared u d.names ≡ true →
          Walks P e 1 (end_entries u ending.Abort ++ rest) (Up P 1 v) d M
      dropped told is = drops d u rest M W s (entries_abort x d.names W u (entry_at d M W s) told is) (λ N V later seen.
          go (pair_aborted u d.names) N V later seen (keys.without_same u d.names.pend (let z = entry_at d M W s in z.pair.sorted)))

      ends : (how : End) → ClaimsEnd tops W 1 (u, how) → is_prepared u d.names ≡ true →
          Walks P e 1 (end_entries u how ++ rest) (Up P 1 v) d M
      ends ending.Commit (inl c) is = moves d u rest M W s c is (λ N V later seen.
          go (pair_committed u d.names) N V later seen (keys.without_same u d.names.pend (let z = entry_at d M W s in z.pair.sorted)))
      ends ending.Commit (inr nested) is = absurd (never (prepared_kind d M W u s is).0 nested.0)
      ends ending.Abort (inl (top, inl told)) is = dropped told is
      ends ending.Abort (inl (top, inr bare)) is = absurd (bare.1 refl)
      ends ending.Abort (inr (inl serial)) is = absurd (never serial.0 (prepared_kind d M W u s is).1)
      ends ending.Abort (inr (inr nested)) is = absurd (never (prepared_kind d M W u s is).0 nested.0)

      by : (b : Bool) → is_prepared u d.names ≡ b → Walks P e 1 ((if b then end_entries u how else []) ++ rest) (Up P 1 v) d M
      by true is = ends how claims is
      by false is = go d.names M W (later_same W) s (unprepared u d.names is)

  -- the entries of constituents go with the end of their serializing action
  orphans_walk : (d : Disk) (u : Uid) (as_left : List Uid) (rest : List Effect) (M : Seen) (W : World) → SeesDisks x tops W (up 1 d t M) →
      at_uid u d.names.pend ≡ None
      → AllByRecursion (λ (a : Uid). (tops.root (uid_number a) ≡ uid_number u) × In (mail.ToldSerial (uid_number u) 1) W.sent) as_left →
      Behind d W u rest
      → Walks P e 1 (flat_map (λ act. end_entries act ending.Abort) as_left ++ rest) (Up P 1 v) d M
  orphans_walk d u [] rest M W s none facts go = go d.names M W (later_same W) s none
  orphans_walk d u (a ∷ more) rest M W s none facts go =
      drops d a (flat_map (λ act. end_entries act ending.Abort) more ++ rest) M W s (goes (is_prepared a d.names) refl)
      (λ N V later seen. orphans_walk (record d { names = pair_aborted a d.names }) u more rest N V seen none_left
      (all_to (λ (b : Uid). (tops.root (uid_number b) ≡ uid_number u) × In (mail.ToldSerial (uid_number u) 1) W.sent)
      (λ (b : Uid). (tops.root (uid_number b) ≡ uid_number u) × In (mail.ToldSerial (uid_number u) 1) V.sent)
      (λ b f. (f.0, later.sent (mail.ToldSerial (uid_number u) 1) f.1)) more facts.1)
      (λ c L U on seen2 gone. go c L U (later_on W V U later on) seen2 gone))
    where
      goes : (b : Bool) → is_prepared a d.names ≡ b → EntryGoes x (pair_aborted a d.names) W
      goes true is =
          entries_forget x d.names W a (uid_number u) (entry_at d M W s) facts.0.1 (ap (λ f. f (uid_number a)) s.fixed.root ∙ facts.0.0)
      goes false is = record {
        effects = [];
        allowed = tt;
        plain = tt;
        there = subst (λ m. SeesEntry x (record d.names { pend = m }) W.disk) (sym (without_none a d.names.pend (unprepared a d.names is)))
            (entry_at d M W s);
        only = record { rest = refl; sent = refl };
      }

      none_left : at_uid u (without_uid a d.names.pend) ≡ None
      none_left = ⊎_elim (λ same. ap (λ w. at_uid w (without_uid a d.names.pend)) same ∙ keys.without_same a d.names.pend
          (let z = entry_at d M W s in z.pair.sorted)) (λ other. keys.without_other u a d.names.pend other ∙ none) (uid_cases u a)

  -- ---- the acknowledgement

  pub names_not : (d : Disk) (M : Seen) (W : World) (u : Uid) → SeesDisks x tops W (up 1 d t M) → at_uid u d.names.pend ≡ None →
      IsNot W.disk.entry_pend (uid_number u)
  names_not d M W u s none h is own =
      let f = (entry_at d M W s).pair.holder h is in
      let same : f.action ≡ u = number_tells f.action u (ap (λ (g : Hold). g.top) f.is ∙ own) in
      never_some (ap (λ w. at_uid w d.names.pend) (sym same) ∙ f.prepared) none

  acks_walk : (d : Disk) (from : ℕ) (u : Uid) (ack : Bool) (M : Seen) (W : World) → (ack ≡ true →
      may_note tops.walk (Acks (uid_number u)) ≡ true) → v.coord ≡ t.coord → (((o : Naming) → t.naming ≡ Some o → SeesConfirmed o W.disk) →
      (o : Naming) → v.naming ≡ Some o → SeesConfirmed o W.disk) → SeesDisks x tops W (up 1 d t M)
      → at_uid u d.store.pend ≡ None → at_uid u d.names.pend ≡ None → (ack ≡ true → In (mail.ToldCommit (uid_number u) 1) W.sent) →
      Walks P e 1 (ack_told from u ack) (Up P 1 v) d M
  acks_walk d from u false M W note coord named s store names told = (W, parts_seen x 1 tops W M d t v coord named s)
  acks_walk d from u true M W note coord named s store names told = λ more quiet.
      let m : mail.Message = mail.Acked (uid_number u) 1 in
      let own : SeesStore x 1 d.store W.disk = s.stores 1 (record { number = 1; disk = d; live = Some t })
      (node_here M 1 (record { number = 1; disk = d; live = Some t })) in
      let V : World = after W (machine.Send m) in
      let p : Post = record { from = 1; to = from; message = message.Acked (record { act = u }) } in
      let sent : SeesDisks x tops V (up 1 d t M) = sends_seen x tops W (up 1 d t M) m
      (told refl, holds_not x 1 tops e d.store W u own store, λ one. names_not d M W u s names) (note refl) s in (
        V,
        parts_seen x 1 tops V (said e more (posted p M)) d t v coord named
            (says_seen x tops V (up 1 d t (posted p M)) (numbered e more) (posts_seen x tops V (up 1 d t M) p (inl refl) sent)),
      )

-- ---- the whole told

-- who is left of a list stood in it
left_on : (f : Uid → Bool) (us : List Uid) (a : Uid) → is_on (filter f us) a ≡ true → is_on us a ≡ true
left_on f [] a on = on
left_on f (u ∷ us) a on = by (f u) (left_on f us a) on
  where
    by : (b : Bool) → (is_on (filter f us) a ≡ true → is_on us a ≡ true) → is_on (if b then u ∷ filter f us else filter f us) a ≡ true →
        is_on (u ∷ us) a ≡ true
    by true ih h = ⊎_elim (λ same. or_left (uid_eq u a) (is_on us a) same) (λ more. or_right (uid_eq u a) (is_on us a) (ih more))
        (or_cases (uid_eq u a) (is_on (filter f us) a) h)
    by false ih h = or_right (uid_eq u a) (is_on us a) (ih h)

module _ (x : ℕ) (tops : Kinds) (e : ℕ) (d : Disk) (t : Parts) (n : Naming) (from : ℕ) (ack : Bool) (ends : List (Uid × End)) (u : Uid)
    (how : End) (M : Seen) (named : t.naming ≡ Some n) (theirs : AreOrphansOf tops u d n) (note : ack ≡ true →
    may_note tops.walk (Acks (uid_number u)) ≡ true)
    (W : World) (sees : SeesDisks x tops W (up 1 d t M)) (claims : ClaimsLast tops W 1 ack (Some (u, how))) where
  abbrev Q : Seen → Type 0
  Q = IsSeenByDisks x tops

  abbrev left : Parts
  left = record { server = (server.told 1 ends t.server).part; naming = Some (naming.told u how d.names n).part; coord = t.coord }

  abbrev Served_lines : List Effect
  Served_lines = (server.told 1 ends t.server).outs

  confirmed_left : (a : Uid) → is_on (let z = (naming.told u how d.names n).part in z.confirmed) a ≡ true → is_on n.confirmed a ≡ true
  confirmed_left a = by (is_on n.told u)
    where
      by : (b : Bool) → is_on (let z = (let r = (if b then did_nothing n else told_new u (taken_end u how n) d.names n) in r.part) in
          z.confirmed) a ≡ true → is_on n.confirmed a ≡ true
      by true on = on
      by false on = left_on (λ w. not (uid_eq w u)) n.confirmed a on

  confirmed_seen : (V : World) → ((o : Naming) → t.naming ≡ Some o → SeesConfirmed o V.disk) → (o : Naming) → left.naming ≡ Some o →
      SeesConfirmed o V.disk
  confirmed_seen V f o is =
      let same : (naming.told u how d.names n).part ≡ o =
      (let j : ◌≡◌ {A = Option Naming} (Some (naming.told u how d.names n).part) (Some o) = is in cc j) in
      subst (λ (z : Naming). SeesConfirmed z V.disk) same (λ a on. f n named a (confirmed_left a on))

  -- an action that is told as begun is a top
  begun_top : W.disk.begun (uid_number u) ≡ true → tops.is_top (uid_number u) ≡ true
  begun_top b = (sees.kinds (uid_number u) b).0

  taken_top : (W.disk.conf (uid_number u) ≡ true) ⊎ (W.disk.light (uid_number u) ≡ true) → tops.is_top (uid_number u) ≡ true
  taken_top c = begun_top (⊎_elim (sees.whole.core.fresh.conf (uid_number u)) (sees.whole.core.fresh.light (uid_number u)) c)

  -- a serializing action is told as one
  told_serial : (how : End) → ClaimsEnd tops W 1 (u, how) → tops.is_top (uid_number u) ≡ false → tops.is_serial (uid_number u) ≡ true →
      In (mail.ToldSerial (uid_number u) 1) W.sent
  told_serial ending.Commit (inl (inl told)) no_top serial = absurd (never (taken_top
      (sees.whole.core.coordinators.decided_taken (uid_number u) (sees.whole.mail (mail.ToldCommit (uid_number u) 1) told))) no_top)
  told_serial ending.Commit (inl (inr bare)) no_top serial =
      absurd (never (taken_top (sees.whole.core.bare.taken (uid_number u) bare)) no_top)
  told_serial ending.Commit (inr nested) no_top serial = absurd (never serial nested.1)
  told_serial ending.Abort (inl (top, c)) no_top serial = absurd (never top no_top)
  told_serial ending.Abort (inr (inl told)) no_top serial = told.1
  told_serial ending.Abort (inr (inr nested)) no_top serial = absurd (never serial nested.1)

  facts_at : (V : World) → IsLater W V → (as_left : List Uid) → AllByRecursion (λ (a : Uid). (tops.root (uid_number a) ≡ uid_number u)
      × (tops.is_top (uid_number u) ≡ false) × (tops.is_serial (uid_number u) ≡ true)) as_left
      → AllByRecursion (λ (a : Uid). (tops.root (uid_number a) ≡ uid_number u) × In (mail.ToldSerial (uid_number u) 1) V.sent) as_left
  facts_at V later [] all = tt
  facts_at V later (a ∷ more) all =
      ((all.0.0, later.sent (mail.ToldSerial (uid_number u) 1) (told_serial how claims.0 all.0.1 all.0.2)), facts_at V later more all.1)

  -- the server's lines, and the acknowledgement
  last_walk : (c c2 : Pair) (N : Seen) (V : World) → SeesDisks x tops V (up 1 (record d { store = c; names = c2 }) t N) →
      at_uid u c.pend ≡ None → at_uid u c2.pend ≡ None → (ack ≡ true → In (mail.ToldCommit (uid_number u) 1) V.sent)
      → Walks Q e 1 ((server.told 1 ends t.server).outs ++ ack_told from u ack) (Up Q 1 left) (record d { store = c; names = c2 }) N
  last_walk c c2 N V s store names told = lines_walk x 1 tops e t left (server.told 1 ends t.server).outs (ack_told from u ack)
      (record d { store = c; names = c2 }) V (ends_own 1 ends t.server)
      (λ L seen. acks_walk x tops e t left (record d { store = c; names = c2 }) from u ack L V note refl (confirmed_seen V) seen store names
      told) N s

  -- naming's lines
  lines_next : (how : End) (c c2 : Pair) (N : Seen) (V : World) → SeesDisks x tops V (up 1 (record d { store = c; names = c2 }) t N) →
      at_uid u c.pend ≡ None → at_uid u c2.pend ≡ None → (ack ≡ true → In (mail.ToldCommit (uid_number u) 1) V.sent)
      → Walks Q e 1 (end_lines u how n ++ ((server.told 1 ends t.server).outs ++ ack_told from u ack)) (Up Q 1 left)
      (record d { store = c; names = c2 }) N
  lines_next how c c2 N V s store names told =
      say_walk x 1 tops e t left (end_lines u how n) ((server.told 1 ends t.server).outs ++ ack_told from u ack)
      (record d { store = c; names = c2 }) V (says (has_locks u n)) (λ L seen. last_walk c c2 L V seen store names told) N s
    where
      says : (b : Bool) → AreAll is_say (if b then Say (body.Told 1 u how part.Naming) ∷ [] else [])
      says true = refl
      says false = refl

  -- the entries of constituents
  orphans_next : (taken : End) (c c2 : Pair) (N : Seen) (V : World) → IsLater W V →
      SeesDisks x tops V (up 1 (record d { store = c; names = c2 }) t N) → at_uid u c.pend ≡ None → at_uid u c2.pend ≡ None →
      (ack ≡ true → In (mail.ToldCommit (uid_number u) 1) V.sent)
      → Walks Q e 1 (end_orphans u taken d.names n ++ (end_lines u taken n
      ++ ((server.told 1 ends t.server).outs ++ ack_told from u ack))) (Up Q 1 left) (record d { store = c; names = c2 }) N
  orphans_next ending.Commit c c2 N V later s store names told = lines_next ending.Commit c c2 N V s store names told
  orphans_next ending.Abort c c2 N V later s store names told = orphans_walk x tops e t left (record d { store = c; names = c2 }) u
      (orphans u d.names n) (end_lines u ending.Abort n ++ ((server.told 1 ends t.server).outs ++ ack_told from u ack)) N V s names
      (facts_at V later (orphans u d.names n) theirs) (λ c3 L U on seen gone.
      lines_next ending.Abort c c3 L U seen store gone (λ a. on.sent (mail.ToldCommit (uid_number u) 1) (told a)))

  -- naming's part behind its own entries
  part_next : (b : Bool) (c c2 : Pair) (N : Seen) (V : World) → IsLater W V → SeesDisks x tops V (up 1 (record d { store = c; names = c2 })
      t N) → at_uid u c.pend ≡ None → at_uid u c2.pend ≡ None → (ack ≡ true → In (mail.ToldCommit (uid_number u) 1) V.sent)
      → Walks Q e 1 ((let r = (if b then did_nothing n else told_new u (taken_end u how n) d.names n) in
      r.outs) ++ ((server.told 1 ends t.server).outs ++ ack_told from u ack)) (Up Q 1 left) (record d { store = c; names = c2 }) N
  part_next true c c2 N V later s store names told = last_walk c c2 N V s store names told
  part_next false c c2 N V later s store names told = subst (λ es. Walks Q e 1 es (Up Q 1 left) (record d { store = c; names = c2 }) N)
      (sym (append_assoc (end_orphans u (taken_end u how n) d.names n) (end_lines u (taken_end u how n) n)
      ((server.told 1 ends t.server).outs ++ ack_told from u ack)))
      (orphans_next (taken_end u how n) c c2 N V later s store names told)

  abbrev Part_outs : List Effect
  Part_outs = let r = (if is_on n.told u then did_nothing n else told_new u (taken_end u how n) d.names n) in r.outs

  whole_walk : Walks Q e 1
      (store_told 1 u how d.store ++ (own_entries u how d.names ++ (Part_outs ++ (Served_lines ++ ack_told from u ack)))) (Up Q 1 left) d M
  whole_walk = store_walks x 1 tops e d t left u how ack (own_entries u how d.names ++ (Part_outs ++ (Served_lines ++ ack_told from u ack)))
      M W sees claims.0 claims.1
      (λ c N V later seen none told. own_walks x tops e t left (record d { store = c }) u how
      (Part_outs ++ (Served_lines ++ ack_told from u ack)) N V seen (end_stays x tops W V sees.whole later 1 (u, how) claims.0)
      (λ c2 L U on seen2 gone. part_next (is_on n.told u) c c2 L U (later_on W V U later on) seen2 none gone
      (λ a. on.sent (mail.ToldCommit (uid_number u) 1) (told a))))

pub naming_is_told : NamingIsTold
naming_is_told x tops e d t v n from ack ends u how outs M named theirs note W sees claims is =
    took_is x 1 tops e (λ a b. Walks (IsSeenByDisks x tops) e 1 b (Up (IsSeenByDisks x tops) 1 a) d M)
    (left x tops e d t n from ack ends u how M named theirs note W sees claims)
    (store_told 1 u how d.store ++ (own_entries u how d.names ++ part_outs) ++ served ++ ack_told from u ack) v outs (sym told_is ∙ is)
    (subst (λ es. Walks (IsSeenByDisks x tops) e 1 es (Up (IsSeenByDisks x tops) 1 (left x tops e d t n from ack ends u how M named theirs
    note W sees claims)) d M) joined (whole_walk x tops e d t n from ack ends u how M named theirs note W sees claims))
  where
    part_outs : List Effect
    part_outs = let r = (if is_on n.told u then did_nothing n else told_new u (taken_end u how n) d.names n) in r.outs

    served : List Effect
    served = (server.told 1 ends t.server).outs

    told_is : handle_told 1 d t from ack ends u how
        ≡ Took (record { server = (server.told 1 ends t.server).part; naming = Some (naming.told u how d.names n).part; coord = t.coord })
        (store_told 1 u how d.store ++ (own_entries u how d.names ++ part_outs) ++ served ++ ack_told from u ack)
    told_is = ap (λ o. Took
        (record { server = (server.told 1 ends t.server).part; naming = (naming_told u how d.names o).part; coord = t.coord }) (store_told 1
        u how d.store ++ (naming_told u how d.names o).outs ++ (server.told 1 ends t.server).outs ++ ack_told from u ack)) named

    joined : store_told 1 u how d.store ++ (own_entries u how d.names ++ (part_outs ++ (served ++ ack_told from u ack)))
        ≡ store_told 1 u how d.store ++ (own_entries u how d.names ++ part_outs) ++ served ++ ack_told from u ack
    joined = sym (append_assoc (store_told 1 u how d.store ++ (own_entries u how d.names ++ part_outs)) served (ack_told from u ack)
        ∙ append_assoc (store_told 1 u how d.store) (own_entries u how d.names ++ part_outs) (served ++ ack_told from u ack)
        ∙ ap (λ es. store_told 1 u how d.store ++ es) (append_assoc (own_entries u how d.names) part_outs (served ++ ack_told from u ack)))
