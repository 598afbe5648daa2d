-- The requests to stores, walked through.
use Rattle.arj_law_parts.proofs.Words
use Words.{◌≡◌, ◌⊎◌, ℕ, List, [], ◌∷◌, Bool, true, false, Option, Some, None, refl, sym, ◌∙◌, ap, subst, inl, inr, if◌then◌else◌}
use Words.{option_map, Uid, Head, ObjectState, Message, object, Reply, actor, response, asked_by, Disk, Effect, Say, Send, Do, Look}
use Words.{Prepare, Before, After, InPart, Prep, Ready, Already, Old, InDoubt, held_at, holder_of, is_prepared, prepare_answer}
use Words.{pair_prepared, Parts, Handled, Took, serve, sends_answer, load_by, load_held, prepare_by, prepare_states, at_uid, uid_number}
use Words.{numbered, Seen}
use Words.ask
use Words.body
use Words.role
use Words.loaded
use Words.prepared
use Rattle.arj_law_disk_view.proofs.Terms
use Terms.{World, run, after, target, Known, bool_cases, never, up, said, posted, Walks, Stops, Up, packed, SeesStore, StoreGoes}
use Terms.{ClaimsPrepare, Kinds, Claims, SeesDisks, IsSeenByDisks, RequestIsWalked}
use Terms.machine
use Terms.mail
use Rattle.arj_law_disk_view.proofs.view
use view.{Halts.stops_seen, Keys.put_same}
use view.Frames.{node_here, says_seen, posts_seen, sends_seen, store_goes_seen}
use view.StoreSteps.{prepared_is, stores_answer, stores_prepare}
use Rattle.arj_law_disk_view.specs.view.Sees.{IsLoad, IsPrepare}

module _ (x k : ℕ) (tops : Kinds) (e : ℕ) where
  abbrev P : Seen → Type 0
  P = IsSeenByDisks x tops

  -- a stop at a look is a stop
  look_stops : (d : Disk) (t : Parts) (M : Seen) → P (up k d t M) → Stops P e k Look d M
  look_stops d t M h Before = stops_seen x tops e k d (Some t) M h
  look_stops d t M h After = stops_seen x tops e k d (Some t) M h
  look_stops d t M h (InPart which) = stops_seen x tops e k d (Some t) M h

  -- an answer that claims what is true
  answers : (d : Disk) (t : Parts) (M : Seen) (W : World) (from : ℕ) (m : Message) → SeesDisks x tops W (up k d t M) →
      Claims x tops W M.lines (record { from = k; to = from; message = m })
      → Walks P e k (Send from m ∷ []) (Up P k t) d M
  answers d t M W from m s claim = λ more quiet. (
    W,
    says_seen x tops W (up k d t (posted (record { from = k; to = from; message = m }) M)) (numbered e more)
        (posts_seen x tops W (up k d t M) (record { from = k; to = from; message = m }) claim s),
  )

  pub took_is : (Q : Parts → List Effect → Type 0) (a : Parts) (b : List Effect) (v : Parts) (outs : List Effect) →
      ◌≡◌ {A = Handled} (Took a b) (Took v outs) → Q a b → Q v outs
  took_is Q a b v outs is h = let first : a ≡ v = cc in let second : b ≡ outs = cc in
      subst (λ p. Q p outs) first (subst (λ o. Q a o) second h)

  -- ---- Load

  load_walks : (d : Disk) (t v : Parts) (from : ℕ) (h : Head) (y : ℕ) (outs : List Effect) (M : Seen) → P (up k d t M) →
      serve k d t from h (ask.Load y) ≡ Took v outs → Walks P e k outs (Up P k v) d M
  load_walks d t v from h y outs M (W, s) is = by (holder_of (object y) d.store) refl is
    where
      own : SeesStore x k d.store W.disk
      own = s.stores k (record { number = k; disk = d; live = Some t }) (node_here M k (record { number = k; disk = d; live = Some t }))

      -- what a store answers of the object was the last state once
      known : (st : ObjectState) → holder_of (object y) d.store ≡ None → held_at (object y) d.store ≡ Some st → st.uid ≡ object x →
          Known W.disk (packed st)
      known st free held of = s.whole.core.history.held k (packed st) (held_known st held of)
        where
          held_known : (st : ObjectState) → held_at (object y) d.store ≡ Some st → st.uid ≡ object x → W.disk.held k ≡ Some (packed st)
          held_known st held of = sym (own.pair.held_is)
              ∙ ap (λ o. option_map packed o) (ap (λ u. held_at u d.store) (sym of ∙ own.pair.keyed (object y) st held) ∙ held)

      found : (o : Option ObjectState) → holder_of (object y) d.store ≡ None → held_at (object y) d.store ≡ o →
          load_held from h t o ≡ Took v outs → Walks P e k outs (Up P k v) d M
      found None free held is = absurd (cc is)
      found (Some st) free held is = took_is (λ a b. Walks P e k b (Up P k a) d M) t
          (Do Look ∷ Send from (response (asked_by h) (Reply.Loaded (loaded.State st))) ∷ []) v outs is
          (look_stops d t M (W, s), answers d t M W from (response (asked_by h) (Reply.Loaded (loaded.State st))) s (known st free held))

      by : (o : Option Uid) → holder_of (object y) d.store ≡ o → load_by y d.store from h t o ≡ Took v outs →
          Walks P e k outs (Up P k v) d M
      by (Some holder) f is =
          took_is (λ a b. Walks P e k b (Up P k a) d M) t (Send from (response (asked_by h) (Reply.Loaded (loaded.InDoubt holder))) ∷ []) v
          outs is (answers d t M W from (response (asked_by h) (Reply.Loaded (loaded.InDoubt holder))) s tt)
      by None f is = found (held_at (object y) d.store) f refl is

  -- ---- Prepare

  -- what is prepared is answered Yes
  yes_walks : (d : Disk) (t : Parts) (M : Seen) (W : World) (from : ℕ) (h : Head) (states : List ObjectState) →
      SeesDisks x tops W (up k d t M) → at_uid (actor h.path) d.store.pend ≡ Some states
      → Walks P e k (Send from (response (asked_by h) (Reply.Prepared prepared.Yes)) ∷ []) (Up P k t) d M
  yes_walks d t M W from h states s is = by (bool_cases (target (W.disk.plan (uid_number (actor h.path))) k))
    where
      own : SeesStore x k d.store W.disk
      own = s.stores k (record { number = k; disk = d; live = Some t }) (node_here M k (record { number = k; disk = d; live = Some t }))

      by : (target (W.disk.plan (uid_number (actor h.path))) k ≡ true) ⊎ (target (W.disk.plan (uid_number (actor h.path))) k ≡ false) →
          Walks P e k (Send from (response (asked_by h) (Reply.Prepared prepared.Yes)) ∷ []) (Up P k t) d M
      by (inr off) = answers d t M W from (response (asked_by h) (Reply.Prepared prepared.Yes)) s
          ((own.planned (actor h.path) states is).begun, λ on. absurd (never on off))
      by (inl on) =
          let m : mail.Message = mail.Prepared (uid_number (actor h.path)) k in
          answers d t M (after W (machine.Send m)) from (response (asked_by h) (Reply.Prepared prepared.Yes))
          (sends_seen x tops W (up k d t M) m (stores_answer x k d.store W (actor h.path) states own is on) refl s)
          ((own.planned (actor h.path) states is).begun, λ also. inl refl)

  prepare_walks : (d : Disk) (t v : Parts) (from : ℕ) (h : Head) (states : List ObjectState) (outs : List Effect) (M : Seen) (W : World) →
      SeesDisks x tops W (up k d t M) → ClaimsPrepare x W (actor h.path) k states
      → prepare_states k d.store states from h t ≡ Took v outs → Walks P e k outs (Up P k v) d M
  prepare_walks d t v from h states outs M W s claims is = twice (is_prepared (actor h.path) d.store) refl is
    where
      own : SeesStore x k d.store W.disk
      own = s.stores k (record { number = k; disk = d; live = Some t }) (node_here M k (record { number = k; disk = d; live = Some t }))

      looked : (m : Message) → Claims x tops W M.lines (record { from = k; to = from; message = m }) →
          Walks P e k (Do Look ∷ Send from m ∷ []) (Up P k t) d M
      looked m claim = (look_stops d t M (W, s), answers d t M W from m s claim)

      readied : is_prepared (actor h.path) d.store ≡ false → prepare_answer (actor h.path) states d.store ≡ Ready
          → Walks P e k (Do Look ∷ Do (Prepare role.Store (actor h.path) states) ∷ Say (body.Prepared k (actor h.path) role.Store)
          ∷ Send from (response (asked_by h) (Reply.Prepared prepared.Yes)) ∷ []) (Up P k t) d M
      readied new ready = (
        look_stops d t M (W, s),
        (
          stops,
          yes_walks (record d { store = pair_prepared (actor h.path) states d.store }) t
              (said e (body.Prepared k (actor h.path) role.Store ∷ []) M) V from h states
              (says_seen x tops V (up k (record d { store = pair_prepared (actor h.path) states d.store }) t M)
              (numbered e (body.Prepared k (actor h.path) role.Store ∷ [])) seen) (put_same (actor h.path) states d.store.pend),
        ),
      )
        where
          goes : StoreGoes x k (pair_prepared (actor h.path) states d.store) W
          goes = stores_prepare x k d.store W (actor h.path) states own claims new ready

          V : World
          V = run W goes.effects

          seen : SeesDisks x tops (run W goes.effects) (up k (record d { store = pair_prepared (actor h.path) states d.store }) t M)
          seen = store_goes_seen x k tops W M d t s (pair_prepared (actor h.path) states d.store) goes

          stops : Stops P e k (Prepare role.Store (actor h.path) states) d M
          stops Before = stops_seen x tops e k d (Some t) M (W, s)
          stops After =
              stops_seen x tops e k (record d { store = pair_prepared (actor h.path) states d.store }) (Some t) M (run W goes.effects, seen)
          stops (InPart which) = stops_seen x tops e k d (Some t) M (W, s)

      by : (a : Prep) → is_prepared (actor h.path) d.store ≡ false → prepare_answer (actor h.path) states d.store ≡ a →
          prepare_by k states from h t a ≡ Took v outs → Walks P e k outs (Up P k v) d M
      by Ready new ready is = took_is (λ a b. Walks P e k b (Up P k a) d M) t (Do Look ∷ Do (Prepare role.Store (actor h.path) states)
          ∷ Say (body.Prepared k (actor h.path) role.Store) ∷ Send from (response (asked_by h) (Reply.Prepared prepared.Yes)) ∷ []) v outs
          is (readied new ready)
      by (Already u) new ready is = absurd (cc is)
      by (Old u n) new ready is = took_is (λ a b. Walks P e k b (Up P k a) d M) t
          (Do Look ∷ Send from (response (asked_by h) (Reply.Prepared (prepared.Old u.num n))) ∷ []) v outs is
          (looked (response (asked_by h) (Reply.Prepared (prepared.Old u.num n))) tt)
      by (InDoubt u holder) new ready is = took_is (λ a b. Walks P e k b (Up P k a) d M) t
          (Do Look ∷ Send from (response (asked_by h) (Reply.Prepared (prepared.InDoubt u.num holder))) ∷ []) v outs is
          (looked (response (asked_by h) (Reply.Prepared (prepared.InDoubt u.num holder))) tt)

      twice : (b : Bool) → is_prepared (actor h.path) d.store ≡ b → (if b then sends_answer from h t [] (Some (Reply.Prepared prepared.Yes))
          else prepare_by k states from h t (prepare_answer (actor h.path) states d.store)) ≡ Took v outs → Walks P e k outs (Up P k v) d M
      twice true f is =
          let q = prepared_is (actor h.path) d.store f in
          took_is (λ a b. Walks P e k b (Up P k a) d M) t (Send from (response (asked_by h) (Reply.Prepared prepared.Yes)) ∷ []) v outs is
          (yes_walks d t M W from h q.0 s q.1)
      twice false f is = by (prepare_answer (actor h.path) states d.store) f refl is

pub loads_are_walked : RequestIsWalked IsLoad
loads_are_walked x tops e k d t v from h (ask.Load y) outs M kind s claims is = load_walks x k tops e d t v from h y outs M s is
loads_are_walked x tops e k d t v from h (ask.Prepare states) outs M kind s claims is = absurd kind
loads_are_walked x tops e k d t v from h (ask.Bind y include avoid) outs M kind s claims is = absurd kind
loads_are_walked x tops e k d t v from h (ask.Activate b st) outs M kind s claims is = absurd kind
loads_are_walked x tops e k d t v from h (ask.Record y b i g) outs M kind s claims is = absurd kind
loads_are_walked x tops e k d t v from h (ask.Invoke y b i ends op) outs M kind s claims is = absurd kind
loads_are_walked x tops e k d t v from h (ask.Vote i ties ends) outs M kind s claims is = absurd kind
loads_are_walked x tops e k d t v from h (ask.Confirm grants excluded included) outs M kind s claims is = absurd kind

pub prepares_are_walked : RequestIsWalked IsPrepare
prepares_are_walked x tops e k d t v from h (ask.Prepare states) outs M kind (W, s) claims is =
    prepare_walks x k tops e d t v from h states outs M W s (claims W s) is
prepares_are_walked x tops e k d t v from h (ask.Load y) outs M kind s claims is = absurd kind
prepares_are_walked x tops e k d t v from h (ask.Bind y include avoid) outs M kind s claims is = absurd kind
prepares_are_walked x tops e k d t v from h (ask.Activate b st) outs M kind s claims is = absurd kind
prepares_are_walked x tops e k d t v from h (ask.Record y b i g) outs M kind s claims is = absurd kind
prepares_are_walked x tops e k d t v from h (ask.Invoke y b i ends op) outs M kind s claims is = absurd kind
prepares_are_walked x tops e k d t v from h (ask.Vote i ties ends) outs M kind s claims is = absurd kind
prepares_are_walked x tops e k d t v from h (ask.Confirm grants excluded included) outs M kind s claims is = absurd kind
