-- Ends that are told to a store, walked through.
use Rattle.arj_law_parts.proofs.Words
use Words.{◌≡◌, ℕ, ◌==◌, List, [], ◌∷◌, ◌++◌, Bool, true, false, Option, Some, None, refl, sym, ◌∙◌, ap, subst, inl, inr, append_assoc}
use Words.{append-nil, not, ◌||◌, if◌then◌else◌, list_all, and_parts, Uid, End, last_end, Disk, Pair, Effect, Say, Send, Do, Commit, Abort}
use Words.{Before, After, InPart, is_prepared, pair_committed, pair_aborted, pair_in_part, Naming, Parts, Took, handle_ends, handle_told}
use Words.{store_told, end_states, naming_told, ack_told, at_uid, uid_number, AreAll, is_server_effect, Node, numbered, number_tells}
use Words.{ends_own, Post, Seen}
use Words.body
use Words.ending
use Words.message
use Words.role
use Words.server
use Rattle.arj_law_disk_view.proofs.Terms
use Terms.{World, IsNot, run, after, Hold, In, never, never_some, test_same, up, said, posted, Walks, Stops, Up, SeesEntry, SeesRecords}
use Terms.{SeesStore, StoreGoes, ClaimsCommit, ClaimsAbort, may_note, Kinds, ClaimsEnd, ClaimsLast, SeesDisks, SeesCoord, SeesNotes}
use Terms.{SeesDown, SeesConfirmed, IsLater, IsSeenByDisks, Acks}
use Terms.machine
use Terms.mail
use Rattle.arj_law_disk_view.proofs.view
use view.{Halts.stops_seen, Later.effects_are_later, Later.later_same}
use view.Frames.{nodes_to, node_here, says_seen, posts_seen, sends_seen, store_goes_seen}
use view.StoreSteps.{prepared_is, unprepared, stores_commit, stores_stop_in_part, stores_abort}
use Rattle.arj_law_disk_view.specs.view.Sees.{EndsAreWalked}
use Rattle.arj_law_disk_view.proofs.view.Keys as keys

-- ---- a node whose coordinator and naming stay

pub parts_seen : (x k : ℕ) (tops : Kinds) (W : World) (M : Seen) (d : Disk) (t v : Parts) → v.coord ≡ t.coord →
    (((o : Naming) → t.naming ≡ Some o → SeesConfirmed o W.disk) → (o : Naming) → v.naming ≡ Some o → SeesConfirmed o W.disk) →
    SeesDisks x tops W (up k d t M) → SeesDisks x tops W (up k d v M)
parts_seen x k tops W M d t v coord named s = record {
  whole = s.whole;
  along = s.along;
  fixed = s.fixed;
  kinds = s.kinds;
  stores = to (λ m n. SeesStore x m n.disk.store W.disk) s.stores (λ h. h);
  entry = λ n is. to (λ m n. m ≡ 1 →
      SeesEntry x n.disk.names W.disk) (λ m n there one. s.entry n (ap (λ j. (up k d t M).nodes j) (sym one) ∙ there)) (λ h. h) 1 n is refl;
  records = to (λ m n. SeesRecords m n.disk.intents W.disk) s.records (λ h. h);
  coords = λ m n p is live. to (λ m n. (p : Parts) → n.live ≡ Some p →
      SeesCoord x m n.disk.inc tops p.coord W.disk) (λ m n there p live. s.coords m n p there live)
      (λ h p live. let same : v ≡ p = cc in
      subst (λ c. SeesCoord x k d.inc tops c W.disk) (sym coord ∙ ap (λ (q : Parts). q.coord) same) (h t refl)) m n is p live;
  notes = λ m n p is live.
      to (λ m n. (p : Parts) → n.live ≡ Some p → SeesNotes x n.disk.intents p.coord W) (λ m n there p live. s.notes m n p there live)
      (λ h p live. let same : v ≡ p = cc in
      subst (λ c. SeesNotes x d.intents c W) (sym coord ∙ ap (λ (q : Parts). q.coord) same) (h t refl)) m n is p live;
  downs = to (λ m n. n.live ≡ None → SeesDown m n.disk.inc W.disk) (λ m n there live. s.downs m n there live) (λ h live. absurd (cc live));
  confirmed = λ n p o is live has_naming. to (λ m n. m ≡ 1 → (p : Parts) (o : Naming) → n.live ≡ Some p → p.naming ≡ Some o → SeesConfirmed
      o W.disk) (λ m n there one p o live has_naming. s.confirmed n p o (ap (λ j. (up k d t M).nodes j) (sym one) ∙ there) live has_naming)
      (λ h one p o live has_naming. let same : v ≡ p = cc in
      named (λ n is. h one t n refl is) o (ap (λ (q : Parts). q.naming) same ∙ has_naming)) 1 n is refl p o live has_naming;
  posts = s.posts;
}
  where
    to : (Q : ℕ → Node → Type 0) → ((m : ℕ) (n : Node) → (up k d t M).nodes m ≡ Some n → Q m n) →
        (Q k (record { number = k; disk = d; live = Some t }) → Q k (record { number = k; disk = d; live = Some v })) → (m : ℕ) (n : Node) →
        (up k d v M).nodes m ≡ Some n → Q m n
    to Q each mine = nodes_to M k (record { number = k; disk = d; live = Some t }) (record { number = k; disk = d; live = Some v }) Q Q
        each mine (λ m n other h. h)

module _ (x k : ℕ) (tops : Kinds) (e : ℕ) where
  abbrev P : Seen → Type 0
  P = IsSeenByDisks x tops

  -- ---- lines of a server

  pub lines_walk : (t v : Parts) (outs rest : List Effect) (d : Disk) (W : World) → AreAll (is_server_effect k) outs
      → ((M : Seen) → SeesDisks x tops W (up k d t M) → Walks P e k rest (Up P k v) d M) → (M : Seen) → SeesDisks x tops W (up k d t M) →
      Walks P e k (outs ++ rest) (Up P k v) d M
  lines_walk t v [] rest d W own go M s = go M s
  lines_walk t v (Say b ∷ es) rest d W own go M s = lines_walk t v es rest d W (and_parts (is_server_effect k (Say b))
      (list_all (is_server_effect k) es) own).1 go (said e (b ∷ []) M) (says_seen x tops W (up k d t M) (numbered e (b ∷ [])) s)
  lines_walk t v (Send to m ∷ es) rest d W own go M s = absurd (cc own)
  lines_walk t v (Do w ∷ es) rest d W own go M s = absurd (cc own)

  -- ---- the acknowledgement

  -- nobody holds the object at a store where the action has nothing prepared
  pub holds_not : (c : Pair) (W : World) (u : Uid) → SeesStore x k c W.disk → at_uid u c.pend ≡ None → IsNot (W.disk.pend k) (uid_number u)
  holds_not c W u s none h is own =
      let f = s.pair.holder h is in
      let same : f.action ≡ u = number_tells f.action u (ap (λ (g : Hold). g.top) f.is ∙ own) in
      never_some (ap (λ w. at_uid w c.pend) (sym same) ∙ f.prepared) none

  ack_walks : (d : Disk) (t v : Parts) (from : ℕ) (u : Uid) (ack : Bool) (M : Seen) (W : World) → (k == 1) ≡ false → v.coord ≡ t.coord →
      v.naming ≡ t.naming → SeesDisks x tops W (up k d t M) → at_uid u d.store.pend ≡ None
      → (ack ≡ true → In (mail.ToldCommit (uid_number u) k) W.sent) → Walks P e k (ack_told from u ack) (Up P k v) d M
  ack_walks d t v from u false M W apart coord named s none told =
      (W, parts_seen x k tops W M d t v coord (λ f o is. f o (sym named ∙ is)) s)
  ack_walks d t v from u true M W apart coord named s none told = λ more quiet.
      let m : mail.Message = mail.Acked (uid_number u) k in
      let own = s.stores k (record { number = k; disk = d; live = Some t })
      (node_here M k (record { number = k; disk = d; live = Some t })) in
      let V : World = after W (machine.Send m) in
      let p : Post = record { from = k; to = from; message = message.Acked (record { act = u }) } in
      let sent : SeesDisks x tops V (up k d t M) = sends_seen x tops W (up k d t M) m
      (told refl, holds_not d.store W u own none, λ one. absurd (never (ap (λ n. n == 1) one ∙ test_same 1) apart))
      (ap (λ b. not b || may_note tops.walk (Acks (uid_number u))) apart) s in (
        V,
        parts_seen x k tops V (said e more (posted p M)) d t v coord (λ f o is. f o (sym named ∙ is))
            (says_seen x tops V (up k d t (posted p M)) (numbered e more) (posts_seen x tops V (up k d t M) p (inl refl) sent)),
      )

  -- ---- the store's part

  abbrev pub Rest : Disk → World → Parts → Parts → Uid → Bool → List Effect → Type 0
  Rest d W0 t v u ack rest = (c : Pair) (M : Seen) (W : World) → IsLater W0 W → SeesDisks x tops W (up k (record d { store = c }) t M) →
      at_uid u c.pend ≡ None → (ack ≡ true → In (mail.ToldCommit (uid_number u) k) W.sent) →
      Walks P e k rest (Up P k v) (record d { store = c }) M

  own_at : (d : Disk) (t : Parts) (M : Seen) (W : World) → SeesDisks x tops W (up k d t M) → SeesStore x k d.store W.disk
  own_at d t M W s =
      s.stores k (record { number = k; disk = d; live = Some t }) (node_here M k (record { number = k; disk = d; live = Some t }))

  -- who has something prepared is a top, and no serializing action
  prepared_kind : (d : Disk) (t : Parts) (M : Seen) (W : World) (u : Uid) → SeesDisks x tops W (up k d t M) → is_prepared u d.store ≡ true →
      (tops.is_top (uid_number u) ≡ true) × (W.disk.serial (uid_number u) ≡ false)
  prepared_kind d t M W u s is = let q = prepared_is u d.store is in s.kinds (uid_number u) ((own_at d t M W s).planned u q.0 q.1).begun

  pub after_told : (W V : World) (u : Uid) (ack : Bool) → V.sent ≡ W.sent → (ack ≡ true → In (mail.ToldCommit (uid_number u) k) W.sent) →
      ack ≡ true → In (mail.ToldCommit (uid_number u) k) V.sent
  after_told W V u ack same told is = subst (λ ms. In (mail.ToldCommit (uid_number u) k) ms) (sym same) (told is)

  commit_walks : (d : Disk) (t v : Parts) (u : Uid) (ack : Bool) (rest : List Effect) (M : Seen) (W : World) → SeesDisks x tops W
      (up k d t M) → ClaimsCommit W u k → is_prepared u d.store ≡ true → (ack ≡ true → In (mail.ToldCommit (uid_number u) k) W.sent)
      → Rest d W t v u ack rest →
      Walks P e k (Do (Commit role.Store u) ∷ Say (body.Done k u role.Store ending.Commit) ∷ rest) (Up P k v) d M
  commit_walks d t v u ack rest M W s claims is told go = (
    stops,
    go (pair_committed u d.store) (said e (body.Done k u role.Store ending.Commit ∷ []) M) V
        (effects_are_later W goes.effects goes.allowed s.whole)
        (says_seen x tops V (up k (record d { store = pair_committed u d.store }) t M)
        (numbered e (body.Done k u role.Store ending.Commit ∷ [])) seen)
        (keys.without_same u d.store.pend (own_at d t M W s).pair.sorted) (after_told W V u ack goes.only.sent told),
  )
    where
      goes : StoreGoes x k (pair_committed u d.store) W
      goes = stores_commit x k d.store W u s.whole.core.bare (own_at d t M W s) claims is

      V : World
      V = run W goes.effects

      seen : SeesDisks x tops (run W goes.effects) (up k (record d { store = pair_committed u d.store }) t M)
      seen = store_goes_seen x k tops W M d t s (pair_committed u d.store) goes

      stops : Stops P e k (Commit role.Store u) d M
      stops Before = stops_seen x tops e k d (Some t) M (W, s)
      stops After = stops_seen x tops e k (record d { store = pair_committed u d.store }) (Some t) M (run W goes.effects, seen)
      stops (InPart which) =
          let part = stores_stop_in_part x k d.store W u which s.whole.core.bare (own_at d t M W s) claims is in
          stops_seen x tops e k (record d { store = pair_in_part which u d.store }) (Some t) M
          (run W part.effects, store_goes_seen x k tops W M d t s (pair_in_part which u d.store) part)

  abort_walks : (d : Disk) (t v : Parts) (u : Uid) (ack : Bool) (rest : List Effect) (M : Seen) (W : World) → SeesDisks x tops W
      (up k d t M) → ClaimsAbort W u k → is_prepared u d.store ≡ true → (ack ≡ true → In (mail.ToldCommit (uid_number u) k) W.sent)
      → Rest d W t v u ack rest → Walks P e k (Do (Abort role.Store u) ∷ Say (body.Done k u role.Store ending.Abort) ∷ rest) (Up P k v) d M
  abort_walks d t v u ack rest M W s claims is told go = (
    stops,
    go (pair_aborted u d.store) (said e (body.Done k u role.Store ending.Abort ∷ []) M) V
        (effects_are_later W goes.effects goes.allowed s.whole)
        (says_seen x tops V (up k (record d { store = pair_aborted u d.store }) t M)
        (numbered e (body.Done k u role.Store ending.Abort ∷ [])) seen)
        (keys.without_same u d.store.pend (own_at d t M W s).pair.sorted) (after_told W V u ack goes.only.sent told),
  )
    where
      goes : StoreGoes x k (pair_aborted u d.store) W
      goes = stores_abort x k d.store W u s.whole.core.bare (own_at d t M W s) claims is

      V : World
      V = run W goes.effects

      seen : SeesDisks x tops (run W goes.effects) (up k (record d { store = pair_aborted u d.store }) t M)
      seen = store_goes_seen x k tops W M d t s (pair_aborted u d.store) goes

      stops : Stops P e k (Abort role.Store u) d M
      stops Before = stops_seen x tops e k d (Some t) M (W, s)
      stops After = stops_seen x tops e k (record d { store = pair_aborted u d.store }) (Some t) M (run W goes.effects, seen)
      stops (InPart which) = stops_seen x tops e k d (Some t) M (W, s)

  pub store_walks : (d : Disk) (t v : Parts) (u : Uid) (how : End) (ack : Bool) (rest : List Effect) (M : Seen) (W : World) →
      SeesDisks x tops W (up k d t M) → ClaimsEnd tops W k (u, how) → (ack ≡ true → In (mail.ToldCommit (uid_number u) k) W.sent)
      → Rest d W t v u ack rest → Walks P e k (store_told k u how d.store ++ rest) (Up P k v) d M
  store_walks d t v u how ack rest M W s claims told go = by (is_prepared u d.store) refl
    where
      ends : (how : End) → ClaimsEnd tops W k (u, how) → is_prepared u d.store ≡ true →
          Walks P e k (end_states k u how ++ rest) (Up P k v) d M
      ends ending.Commit (inl c) is = commit_walks d t v u ack rest M W s c is told go
      ends ending.Commit (inr no_top) is = absurd (never (prepared_kind d t M W u s is).0 no_top.0)
      ends ending.Abort (inl c) is = abort_walks d t v u ack rest M W s c.1 is told go
      ends ending.Abort (inr (inl serial)) is = absurd (never serial.0 (prepared_kind d t M W u s is).1)
      ends ending.Abort (inr (inr no_top)) is = absurd (never (prepared_kind d t M W u s is).0 no_top.0)

      by : (b : Bool) → is_prepared u d.store ≡ b → Walks P e k ((if b then end_states k u how else []) ++ rest) (Up P k v) d M
      by true is = ends how claims is
      by false is = go d.store M W (later_same W) s (unprepared u d.store is) told

  -- the whole handler at a node without naming
  told_walks : (d : Disk) (t : Parts) (from : ℕ) (ack : Bool) (ends : List (Uid × End)) (u : Uid) (how : End) (M : Seen) (W : World) →
      (k == 1) ≡ false → t.naming ≡ None → SeesDisks x tops W (up k d t M) → ClaimsLast tops W k ack (Some (u, how))
      → (v : Parts) (outs : List Effect) → handle_told k d t from ack ends u how ≡ Took v outs → Walks P e k outs (Up P k v) d M
  told_walks d t from ack ends u how M W apart bare s claims v outs is =
      subst (λ (p : Parts). Walks P e k outs (Up P k p) d M) first (subst (λ os. Walks P e k os (Up P k left) d M) (joined ∙ second) walked)
    where
      left : Parts
      left = record { server = (server.told k ends t.server).part; naming = (naming_told u how d.names t.naming).part; coord = t.coord }

      first : left ≡ v
      first = cc is

      second : store_told k u how d.store ++ (naming_told u how d.names t.naming).outs ++ (server.told k ends t.server).outs
          ++ ack_told from u ack ≡ outs
      second = cc is

      silent : (naming_told u how d.names t.naming).outs ≡ []
      silent = ap (λ o. (naming_told u how d.names o).outs) bare

      nowhere : left.naming ≡ t.naming
      nowhere = ap (λ o. (naming_told u how d.names o).part) bare ∙ sym bare

      walked : Walks P e k (store_told k u how d.store ++ ((server.told k ends t.server).outs ++ ack_told from u ack)) (Up P k left) d M
      walked = store_walks d t left u how ack ((server.told k ends t.server).outs ++ ack_told from u ack) M W s claims.0 claims.1
          (λ c N V later seen none told. lines_walk t left (server.told k ends t.server).outs (ack_told from u ack) (record d { store = c })
          V (ends_own k ends t.server)
          (λ N2 seen2. ack_walks (record d { store = c }) t left from u ack N2 V apart refl nowhere seen2 none told) N seen)

      joined : store_told k u how d.store ++ ((server.told k ends t.server).outs ++ ack_told from u ack) ≡ store_told k u how d.store
          ++ (naming_told u how d.names t.naming).outs ++ (server.told k ends t.server).outs ++ ack_told from u ack
      joined = sym (append_assoc (store_told k u how d.store) (server.told k ends t.server).outs (ack_told from u ack))
          ∙ ap (λ os. os ++ (server.told k ends t.server).outs ++ ack_told from u ack)
          (sym (append-nil (store_told k u how d.store)) ∙ ap (λ os. store_told k u how d.store ++ os) (sym silent))

pub ends_are_walked : EndsAreWalked
ends_are_walked x tops e k d t v from ack ends outs M apart bare (W, s) claims is = by (last_end ends) (claims W s) is
  where
    by : (o : Option (Uid × End)) → ClaimsLast tops W k ack o → handle_ends k d t from ack ends o ≡ Took v outs →
        Walks (IsSeenByDisks x tops) e k outs (Up (IsSeenByDisks x tops) k v) d M
    by None c is =
        let first : t ≡ v = cc in
        let second : ◌≡◌ {A = List Effect} [] outs = cc in
        subst (λ (p : Parts). Walks (IsSeenByDisks x tops) e k outs (Up (IsSeenByDisks x tops) k p) d M) first
        (subst (λ os. Walks (IsSeenByDisks x tops) e k os (Up (IsSeenByDisks x tops) k t) d M) second (W, s))
    by (Some u) c is = told_walks x k tops e d t from ack ends u.0 u.1 M W apart bare s c v outs is
