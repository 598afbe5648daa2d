-- What a coordinator does, stops, and actions that begin: of a decided top each included store goes on having the object.
use Rattle.arj_law_parts.proofs.Words
use Words.{◌≡◌, ◌≢◌, ◌⊎◌, ◌∙◌, ◌++◌, ℕ, Bool, true, false, cond, List, [], ◌∷◌, map, Option, Some, None, refl, sym, ap, subst, inl, inr}
use Words.{⊎_elim, is_some, not, ◌&&◌, AllByRecursion, Asked, Body, Head, Header, Uid, asks, object, uid_eq, Reply, actor, answers}
use Words.{again_all, heard, Confirming, Plan, has_record, participants, Grants, Marks, Committing, Coord, Doing, doing_of, After, Before}
use Words.{Disk, Do, Effect, InPart, Intent, PutIntent, RemoveIntent, Say, Send, Served, Stop, held_at, is_prepared, stopped, worked, acked}
use Words.{acked_by, acked_left, decide, decided_told, let_go, says, say_for, tell, tell_all, tolds_let_go, tick_outs, Parts, holders}
use Words.{query_about, with_coord, at_uid, has, put_uid, without_number, without_uid, Input, Node, acts, refusal_up, tolds_again}
use Words.{branch_of, root_of, Post, Seen}
use Words.ask
use Words.body
use Words.ending
use Words.message
use Rattle.arj_law_promise.proofs.Terms
use Terms.{is_over, paths_of, IsCommitting, AreNumbered, put_cases, put_other, put_same, well_again, acts_so, again_so, heard_so, tolds_so}
use Terms.{AllSo, so_both, is_act, In, at, up, Up, Walks, halted, book, is_decided, some_is}
use Rattle.arj_law_promise.proofs.settling
use settling.{JoinRuns.SaysJoins, JoinRuns.confirms_by, Lights.IsUndeciding, Lights.undecided, Steps.Either, StockParts.quiet_undeciding}
use settling.Calms.{AllCalm, Decided, Goes, IsYes, Still, again_calm, calm_both}
use settling.Cores.{IsAcked, IsDone, IsHeld, Lists}
use settling.Knowns.{committing, numbers, open_undone}
use settling.Milds.{here_is, held_stays, lists_on, now_cases, recorded_back, the_node, was_cases}
use settling.Stills.{IsPlainSend, IsRight, Unasked, line_fits, no_work}
use settling.Stocks.{IsFed, IsIncluded, IsStocked, IsStored, halt_by, still_by, stocked_on, walk_by}
use settling.Trails.{FitsSo, LineMild, UpBy, Went, mild_decides, quiet_mild}
use Rattle.arj_law_promise.proofs.settling.Acks as acks
use Rattle.arj_law_promise.proofs.settling.Decides as decides
use Rattle.arj_law_promise.proofs.settling.Moves as moves

-- ---- where disks stay

-- with the same disks, and the same messages, where nobody more is decided
pub same_stock : (M N : Seen) → N.sent ≡ M.sent → ((n : ℕ) (a : Node) → N.nodes n ≡ Some a → (b : Node) × (M.nodes n ≡ Some b)
    × (b.disk ≡ a.disk)) → ((n : ℕ) (a : Node) → M.nodes n ≡ Some a → (b : Node) × (N.nodes n ≡ Some b) × (b.disk ≡ a.disk)) →
    ((u : Uid) → is_decided (book N.lines) u ≡ true → is_decided (book M.lines) u ≡ true) → IsStocked M → IsStocked N
same_stock M N sent back on lines stock = record {
  pend = λ n a u ss is at_it. let b = back n a is in let p = stock.pend n b.0 u ss b.1 (ap (λ (d : Disk). at_uid u (let s = d.store in
      s.pend)) b.2 ∙ at_it) in (p.0, (let q = p.1 in (q.0, subst (In q.0) (sym sent) q.1, q.2, q.3, q.4, q.5, q.6)));
  done = λ u x n included done. ⊎_elim (λ both. inl (held u n both.0, lists u n both.1)) (λ stored. inr (has n x stored))
      (stock.done u x n (was u x n included) (was_done u done));
  acked = λ u x n included done acked.
      has n x (stock.acked u x n (was u x n included) (was_done u done) (acked.0, subst (In acked.0) sent acked.1, acked.2, acked.3));
}
  where
    was : (u : Uid) (x n : ℕ) → IsIncluded N u x n → IsIncluded M u x n
    was u x n (p, i, from, h, g, e, l, is, act, there) = (p, subst (In p) sent i, from, h, g, e, l, is, act, there)

    was_done : (u : Uid) → IsDone N u → IsDone M u
    was_done u (inl on_it) = inl (lines u on_it)
    was_done u (inr (a, i, is, at_it)) = let b = back u.node a is in inr (b.0, i, b.1, ap (λ (d : Disk). at_uid u d.intents) b.2 ∙ at_it)

    held : (u : Uid) (n : ℕ) → IsHeld M n u → IsHeld N n u
    held u n (a, is, on_it) = let b = on n a is in (b.0, b.1, ap (λ (d : Disk). is_prepared u d.store) b.2 ∙ on_it)

    lists : (u : Uid) (n : ℕ) → Lists M u n → Lists N u n
    lists u n (a, i, is, at_it, on_it) = let b = on u.node a is in (b.0, i, b.1, ap (λ (d : Disk). at_uid u d.intents) b.2 ∙ at_it, on_it)

    has : (n x : ℕ) → IsStored M n x → IsStored N n x
    has n x (a, is, on_it) = let b = on n a is in (b.0, b.1, ap (λ (d : Disk). is_some (held_at (object x) d.store)) b.2 ∙ on_it)

-- ---- where the store stays

module _ (k : ℕ) (d : Disk) (live : Option Parts) (M : Seen) (Says : Body → Type 0) (Sends : Post → Type 0) (D : Disk → Option Parts →
    Type 0) (Z : Seen) (w : Went k M Says Sends D Z) (store : (let c = w.disk in c.store) ≡ d.store)
    (done : (u : Uid) (x n : ℕ) → IsIncluded (at k d live M) u x n → IsDone Z u →
    IsDone (at k d live M) u ⊎ ((IsHeld Z n u × Lists Z u n) × (IsAcked M.sent n u → ⊥)))
    (lists : (u : Uid) (x n : ℕ) → IsIncluded (at k d live M) u x n → IsDone (at k d live M) u → Lists (at k d live M) u n →
    Lists Z u n ⊎ IsStored (at k d live M) n x)
    (confirms : (p : Post) → Sends p → (h : Head) (g : Grants) (e i : Marks) → asks p.message ≡ Some (h, ask.Confirm g e i) →
    IsDone Z (actor h.path) → ⊥)
    (quiet : (p : Post) → Sends p → (u : Uid) → p.message ≡ message.Acked (record { act = u }) → ⊥) where
  pub store_fed : IsFed k d live M Says Sends D Z w
  store_fed = record {
    held = λ y on. ap (λ s. is_some (held_at y s)) store ∙ on;
    keeps = λ u on. inl (ap (is_prepared u) store ∙ on);
    pends = λ u ss at_it. inl (ap (λ s. at_uid u (let z = s in z.pend)) (sym store) ∙ at_it);
    done = done;
    lists = lists;
    confirms = confirms;
    acks = λ p so u is. absurd (quiet p so u is);
  }

-- a node stops
pub stop_stock : (k : ℕ) (d : Disk) (live : Option Parts) (M : Seen) → IsStocked (at k d live M) → (e : ℕ) → IsStocked (halted e k d M)
stop_stock k d live M stock e = same_stock (at k d live M) (halted e k d M) refl (λ n a is. back n a is) (λ n a is. on n a is)
    (λ u on_it. undecided M.lines (record { event = e; body = body.Halted k } ∷ []) (tt, tt) u on_it) stock
  where
    change : (n : ℕ) (x y : Node) (b : Bool) (o : Option Node) → x.disk ≡ y.disk → (a : Node) → cond b (Some x) o ≡ Some a →
        (c : Node) × (cond b (Some y) o ≡ Some c) × (c.disk ≡ a.disk)
    change n x y true o same a is = (y, refl, sym same ∙ ap (λ (z : Node). z.disk) (some_is is))
    change n x y false o same a is = (a, is, refl)

    back : (n : ℕ) (a : Node) → (let H = halted e k d M in H.nodes n) ≡ Some a →
        (b : Node) × ((let S = at k d live M in S.nodes n) ≡ Some b) × (b.disk ≡ a.disk)
    back n a is =
        change n (record { number = k; disk = d; live = None }) (record { number = k; disk = d; live = live }) _ (M.nodes n) refl a is

    on : (n : ℕ) (a : Node) → (let S = at k d live M in S.nodes n) ≡ Some a →
        (b : Node) × ((let H = halted e k d M in H.nodes n) ≡ Some b) × (b.disk ≡ a.disk)
    on n a is =
        change n (record { number = k; disk = d; live = live }) (record { number = k; disk = d; live = None }) _ (M.nodes n) refl a is

-- ---- a coordinator that decides nobody

module _ (k : ℕ) (d : Disk) (t : Parts) (M : Seen) (right : IsRight (up k d t M)) (says_it : SaysJoins M.sent)
    (stock : IsStocked (up k d t M)) (e : ℕ) where
  abbrev S : Seen
  S = up k d t M

  here : S.nodes k ≡ Some (the_node k d (Some t))
  here = here_is k d (Some t) M

  abbrev Mild : Body → Type 0
  Mild = LineMild (Unasked k d t M right) (let B = book M.lines in B.acts)

  abbrev Same : Disk → Type 0
  Same c = c ≡ d

  -- who asks naming is at its commit, and nothing is acknowledged
  abbrev Sends : Coord → Post → Type 0
  Sends c p = ((h : Head) (g : Grants) (x i : Marks) → asks p.message ≡ Some (h, ask.Confirm g x i) → IsCommitting (actor h.path) c)
      × ((u : Uid) → p.message ≡ message.Acked (record { act = u }) → ⊥)

  module _ (v : Parts) where
    fits : (outs : List Effect) → AllCalm (Unasked k d t M right) t.coord v.coord outs → AllByRecursion IsPlainSend outs →
        AllSo v.coord outs →
        AllByRecursion (FitsSo k M Mild (Sends v.coord) (quiet_mild (Unasked k d t M right) (let B = book M.lines in B.acts)) tt Same) outs
    fits [] calm plain so = tt
    fits (Say b ∷ es) calm plain so = (line_fits (Unasked k d t M right) k d t M right.0 b calm.0, fits es calm.1 plain.1 so.1)
    fits (Send to m ∷ es) calm plain so = (
      (
        (λ h g x i is. let b = confirms_by v.coord to h g x i (so.0 h (ask.Confirm g x i) is) in
            (b.doing, Confirming b.plan, b.found, b.now)),
        (λ u is. let z = plain.0 in z.1 u is),
      ),
      fits es calm.1 plain.1 so.1,
    )
    fits (Do w ∷ es) calm plain so = absurd calm.0

    pub still_stock : (outs : List Effect) → AllCalm (Unasked k d t M right) t.coord v.coord outs → AllByRecursion IsPlainSend outs →
        AllSo v.coord outs → Walks IsRight e k outs (Up IsRight k v) d M → Walks IsStocked e k outs (Up IsStocked k v) d M
    still_stock outs calm plain so known =
        still_by IsRight IsStocked k M Mild (Sends v.coord) (quiet_mild (Unasked k d t M right) (let B = book M.lines in B.acts)) tt Same v
        e outs d (no_work (Unasked k d t M right) t.coord v.coord outs calm) (fits outs calm plain so) refl each known
      where
        each : (b : Disk) (N : Seen) → IsRight (up k b v N) → (w : Went k M Mild (Sends v.coord) (UpBy k M Mild (Sends v.coord)
            (quiet_mild (Unasked k d t M right) (let B = book M.lines in B.acts)) tt Same v) (up k b v N)) → IsStocked (up k b v N)
        each b N known_it w = stocked_on k d (Some t) M Mild (Sends v.coord) (UpBy k M Mild (Sends v.coord)
            (quiet_mild (Unasked k d t M right) (let B = book M.lines in B.acts)) tt Same v) (up k b v N) w stock
            (store_fed k d (Some t) M Mild (Sends v.coord)
            (UpBy k M Mild (Sends v.coord) (quiet_mild (Unasked k d t M right) (let B = book M.lines in B.acts)) tt Same v) (up k b v N)
            w (ap (λ (c : Disk). c.store) w.fits.0) done lists confirms (λ p so_it u is. so_it.1 u is))
          where
            intents : (let c = w.disk in c.intents) ≡ d.intents
            intents = ap (λ (c : Disk). c.intents) w.fits.0

            done : (u : Uid) (x n : ℕ) → IsIncluded (up k d t M) u x n → IsDone (up k b v N) u →
                IsDone (up k d t M) u ⊎ ((IsHeld (up k b v N) n u × Lists (up k b v N) u n) × (IsAcked M.sent n u → ⊥))
            done u x n included (inr r) = inl (inr (recorded_back k d (Some t) M Mild (Sends v.coord) (UpBy k M Mild (Sends v.coord)
                (quiet_mild (Unasked k d t M right) (let B = book M.lines in B.acts)) tt Same v) (up k b v N) w intents u r))
            done u x n included (inl on) = ⊎_elim (λ old. inl (inl old))
                (λ unasked. absurd (unasked n (let core = right.1 in core.yeses u n (says_it.said u.node u x n included))))
                (mild_decides (Unasked k d t M right) M.lines w.more w.said_so u (subst (λ ls. is_decided (book ls) u ≡ true) w.lines on))

            lists : (u : Uid) (x n : ℕ) → IsIncluded (up k d t M) u x n → IsDone (up k d t M) u → Lists (up k d t M) u n →
                Lists (up k b v N) u n ⊎ IsStored (up k d t M) n x
            lists u x n included was listed = inl (lists_on k d (Some t) M Mild (Sends v.coord) (UpBy k M Mild (Sends v.coord)
                (quiet_mild (Unasked k d t M right) (let B = book M.lines in B.acts)) tt Same v) (up k b v N) w intents u n listed)

            -- who asks naming is open
            confirms : (p : Post) → Sends v.coord p → (h : Head) (g : Grants) (x i : Marks) → asks p.message ≡ Some (h, ask.Confirm g x i) →
                IsDone (up k b v N) (actor h.path) → ⊥
            confirms p so_it h g x i is done_it =
                let c = committing (up k b v N) known_it.0 k (the_node k b (Some v)) v (here_is k b (Some v) N) refl (actor h.path)
                (so_it.0 h g x i is) in
                open_undone (up k b v N) known_it.0 k (the_node k b (Some v)) v (here_is k b (Some v) N) refl (actor h.path) c.0 c.1 c.2
                done_it

  numbered : AreNumbered t.coord
  numbered = numbers S right.0 k (the_node k d (Some t)) t here refl

  -- ---- a decision

  module _ (joins : (u : Uid) (q : Doing) (p : Plan) → doing_of u t.coord ≡ Some q → q.now ≡ Committing (Confirming p) → (x n : ℕ) → u.node
      ≡ k → IsIncluded (up k d t M) u x n → has p.prepared n ≡ true) (u : Uid) (q : Doing) (p : Plan) (found : doing_of u t.coord ≡ Some q)
      (now : q.now ≡ Committing (Confirming p)) (v : Parts) (part : v.coord ≡ (decide (record p { confirmed = true }) t.coord).part) where
    abbrev P : Plan
    P = record p { confirmed = true }

    abbrev i : Intent
    i = record { root = root_of p.path; nodes = participants (record p { confirmed = true }) }

    acts_for : actor p.path ≡ u
    acts_for = decides.acts_for k d t M right e u q p found now

    home : u.node ≡ k
    home = decides.home k d t M right e u q p found now

    -- nothing is asked, and nothing acknowledged
    abbrev Tells : Post → Type 0
    Tells z = ((h : Head) (g : Grants) (x y : Marks) → asks z.message ≡ Some (h, ask.Confirm g x y) → ⊥)
        × ((w : Uid) → z.message ≡ message.Acked (record { act = w }) → ⊥)

    abbrev Lines : Body → Type 0
    Lines = LineMild (λ x. x ≡ u) (let B = book M.lines in B.acts)

    -- with this on the disk
    module _ (c : Disk) (store : c.store ≡ d.store) (recs : (x : Uid) (j : Intent) → at_uid x c.intents ≡ Some j → (at_uid x d.intents
        ≡ Some j) ⊎ (x ≡ u)) (stays : (x : Uid) (j : Intent) → x ≢ u → at_uid x d.intents ≡ Some j → at_uid x c.intents ≡ Some j)
        (puts : (n : ℕ) → has p.prepared n ≡ true →
        at_uid u c.intents ≡ Some (record { root = root_of p.path; nodes = participants (record p { confirmed = true }) })) where
      abbrev Is : Disk → Type 0
      Is b = b ≡ c

      module _ (Z : Seen) (w : Went k M Lines Tells (Either Is v) Z) where
        disk_is : w.disk ≡ c
        disk_is = w.fits.0

        same_store : (let b = w.disk in b.store) ≡ d.store
        same_store = ap (λ (b : Disk). b.store) disk_is ∙ store

        -- who is decided now each included store is listed for
        new : (x n : ℕ) → IsIncluded (up k d t M) u x n → (IsHeld Z n u × Lists Z u n) × (IsAcked M.sent n u → ⊥)
        new x n included =
            let on = joins u q p found now x n home included in
            let watched = decides.watched k d t M right e u q p found now in (
              (
                held_stays k d (Some t) M Lines Tells (Either Is v) Z w (λ y there. ap (is_prepared y) same_store ∙ there) n u
                    (watched.held u n home (q, Confirming p, found, now) (says_it.said u.node u x n included)),
                (
                  the_node k w.disk w.live,
                  i,
                  ap Z.nodes home ∙ w.here,
                  ap (λ (b : Disk). at_uid u b.intents) disk_is ∙ puts n on,
                  decides.listed k d t M right e u q p found now n on,
                ),
              ),
              decides.unacked k d t M right e u q p found now n,
            )

        done : (x : Uid) (y n : ℕ) → IsIncluded (up k d t M) x y n → IsDone Z x →
            IsDone (up k d t M) x ⊎ ((IsHeld Z n x × Lists Z x n) × (IsAcked M.sent n x → ⊥))
        done x y n included (inl on) = ⊎_elim (λ old. inl (inl old)) (λ one. its x y n included one)
            (mild_decides (λ z. z ≡ u) M.lines w.more w.said_so x (subst (λ ls. is_decided (book ls) x ≡ true) w.lines on))
          where
            its : (x : Uid) (y n : ℕ) → IsIncluded (up k d t M) x y n → x ≡ u →
                IsDone (up k d t M) x ⊎ ((IsHeld Z n x × Lists Z x n) × (IsAcked M.sent n x → ⊥))
            its x y n included one = inr (subst (λ z. (IsHeld Z n z × Lists Z z n) × (IsAcked M.sent n z → ⊥)) (sym one)
                (new y n (subst (λ z. IsIncluded (up k d t M) z y n) one included)))
        done x y n included (inr (a, j, is, at_it)) = ⊎_elim
            (λ mine. ⊎_elim (λ old. inl (inr (the_node k d (Some t), j, ap S.nodes mine.0 ∙ here, old)))
            (λ one. inr (subst (λ z. (IsHeld Z n z × Lists Z z n) × (IsAcked M.sent n z → ⊥)) (sym one)
            (new y n (subst (λ z. IsIncluded (up k d t M) z y n) one included))))
            (recs x j (ap (λ (b : Disk). at_uid x b.intents) (sym disk_is)
            ∙ ap (λ (z : Node). let b = z.disk in at_uid x b.intents) (sym mine.1) ∙ at_it)))
            (λ other. inl (inr (a, j, other.1, at_it)))
            (now_cases k d (Some t) M Lines Tells (Either Is v) Z w x.node a is)

        lists : (x : Uid) (y n : ℕ) → IsIncluded (up k d t M) x y n → IsDone (up k d t M) x → Lists (up k d t M) x n →
            Lists Z x n ⊎ IsStored (up k d t M) n y
        lists x y n included was (a, j, is, at_it, on) = ⊎_elim
            (λ mine. inl (
              the_node k w.disk w.live,
              j,
              ap Z.nodes mine.0 ∙ w.here,
              ap (λ (b : Disk). at_uid x b.intents) disk_is ∙ stays x j (λ one. decides.undone k d t M right e u q p found now
                  (subst (IsDone (up k d t M)) one was)) (ap (λ (z : Node). let b = z.disk in at_uid x b.intents) (sym mine.1) ∙ at_it),
              on,
            ))
            (λ other. inl (a, j, other.1, at_it, on))
            (was_cases k d (Some t) M Lines Tells (Either Is v) Z w x.node a is)

        decided_stock_at : IsStocked Z
        decided_stock_at = stocked_on k d (Some t) M Lines Tells (Either Is v) Z w stock (store_fed k d (Some t) M Lines Tells (Either Is v)
            Z w same_store done lists (λ z so h g x y is undone. so.0 h g x y is) (λ z so x is. so.1 x is))

      abbrev Fits : Effect → Type 0
      Fits = FitsSo k M Lines Tells (quiet_mild (λ x. x ≡ u) (let B = book M.lines in B.acts)) tt Is

      fits_both : (xs ys : List Effect) → AllByRecursion Fits xs → AllByRecursion Fits ys → AllByRecursion Fits (xs ++ ys)
      fits_both [] ys a b = b
      fits_both (x ∷ xs) ys a b = (a.0, fits_both xs ys a.1 b)

      tolds_fit : (ns : List ℕ) →
          AllByRecursion Fits (map (decided_told (root_of p.path) (actor p.path) (record p { confirmed = true })) ns)
      tolds_fit [] = tt
      tolds_fit (n ∷ ns) = (one (has (participants P) n), tolds_fit ns)
        where
          one : (b : Bool) → FitsSo k M Lines Tells (quiet_mild (λ x. x ≡ u) (let B = book M.lines in B.acts)) tt Is
              (cond b (tell (root_of p.path) (has_record (record p { confirmed = true })) ((actor p.path, ending.Commit) ∷ []) n)
              (tell (root_of p.path) false ((actor p.path, ending.Abort) ∷ []) n))
          one true = ((λ h g x y z. cc z), (λ w z. cc z))
          one false = ((λ h g x y z. cc z), (λ w z. cc z))

      says_fit : AllByRecursion Fits (says (actor p.path) body.Committed t.coord)
      says_fit = subst (λ o. AllByRecursion Fits (say_for body.Committed o)) (sym (ap (λ z. doing_of z t.coord) acts_for ∙ found))
          ((λ x is. decides.its_label k d t M right e u q p found now x is), tt)

      abbrev rest : List Effect
      rest = says (actor p.path) body.Committed t.coord
          ++ map (decided_told (root_of p.path) (actor p.path) (record p { confirmed = true })) p.sent

      decided_rest : Walks IsRight e k rest (Up IsRight k v) c M → Walks IsStocked e k rest (Up IsStocked k v) c M
      decided_rest known = walk_by IsRight IsStocked k M Lines Tells (quiet_mild (λ x. x ≡ u) (let B = book M.lines in B.acts)) tt Is v e
          rest c (fits_both (says (actor p.path) body.Committed t.coord) (map (decided_told (root_of p.path) (actor p.path) P) p.sent)
          says_fit (tolds_fit p.sent)) refl (λ Z its w. decided_stock_at Z w) known

      decided_halt : IsRight (halted e k c M) → IsStocked (halted e k c M)
      decided_halt known = halt_by IsRight IsStocked k M Lines Tells (quiet_mild (λ x. x ≡ u) (let B = book M.lines in B.acts)) tt Is v e c
          refl (λ Z its w. decided_stock_at Z w) known

    abbrev put : Disk
    put = worked (PutIntent (actor p.path) i) d

    recs : (x : Uid) (j : Intent) → at_uid x (put_uid (actor p.path) i d.intents) ≡ Some j → (at_uid x d.intents ≡ Some j) ⊎ (x ≡ u)
    recs x j at_it = ⊎_elim (λ mine. inr (mine.0 ∙ acts_for)) (λ old. inl old.1) (put_cases x (actor p.path) i j d.intents at_it)

    stays : (x : Uid) (j : Intent) → x ≢ u → at_uid x d.intents ≡ Some j → at_uid x (put_uid (actor p.path) i d.intents) ≡ Some j
    stays x j other at_it = put_other x (actor p.path) i d.intents (λ is. other (is ∙ acts_for)) ∙ at_it

    puts : (n : ℕ) → has p.prepared n ≡ true → at_uid u (put_uid (actor p.path) i d.intents) ≡ Some i
    puts n on = ap (λ z. at_uid z (put_uid (actor p.path) i d.intents)) (sym acts_for) ∙ put_same (actor p.path) i d.intents

    put_stops : (how : Stop) → IsRight (halted e k (stopped how (PutIntent (actor p.path) i) d) M) →
        IsStocked (halted e k (stopped how (PutIntent (actor p.path) i) d) M)
    put_stops Before z = stop_stock k d (Some t) M stock e
    put_stops After z = decided_halt put refl recs stays puts z
    put_stops (InPart which) z = stop_stock k d (Some t) M stock e

    pub decided_stock : (outs : List Effect) → outs ≡ (decide (record p { confirmed = true }) t.coord).outs →
        Walks IsRight e k outs (Up IsRight k v) d M → Walks IsStocked e k outs (Up IsStocked k v) d M
    decided_stock outs are known = subst (λ es. Walks IsStocked e k es (Up IsStocked k v) d M) (sym are)
        (by (has_record P) refl (subst (λ es. Walks IsRight e k es (Up IsRight k v) d M) are known))
      where
        by : (b : Bool) → has_record (record p { confirmed = true }) ≡ b →
            Walks IsRight e k (cond b (Do (PutIntent (actor p.path) i) ∷ []) [] ++ says (actor p.path) body.Committed t.coord
            ++ map (decided_told (root_of p.path) (actor p.path) (record p { confirmed = true })) p.sent) (Up IsRight k v) d M →
            Walks IsStocked e k (cond b (Do (PutIntent (actor p.path) i) ∷ []) [] ++ says (actor p.path) body.Committed t.coord
            ++ map (decided_told (root_of p.path) (actor p.path) (record p { confirmed = true })) p.sent) (Up IsStocked k v) d M
        by true yes_record z = ((λ how. put_stops how (z.0 how)), decided_rest put refl recs stays puts z.1)
        by false none z = decided_rest d refl (λ x j at_it. inl at_it) (λ x j other at_it. at_it)
            (λ n on. absurd (decides.unrecorded k d t M right e u q p found now v part n none on)) z

  -- ---- answers, inputs, and ticks

  module _ (joins : (u : Uid) (q : Doing) (p : Plan) → doing_of u t.coord ≡ Some q → q.now ≡ Committing (Confirming p) → (x n : ℕ) →
      u.node ≡ k → IsIncluded (up k d t M) u x n → has p.prepared n ≡ true) where
    pub heard_stock : (from : ℕ) (m : _) (there : In (record { from = from; to = k; message = m }) M.sent) (a : Asked) (r : Reply)
        (of : answers m ≡ Some (a, r)) → (let z = heard from a r d.intents t.coord in Walks IsRight e k z.outs
        (Up IsRight k (with_coord t z.part)) d M → Walks IsStocked e k z.outs (Up IsStocked k (with_coord t z.part)) d M)
    heard_stock from m there a r of known = by (moves.goes k d t M right e from m there a r of)
      where
        z : Served Coord (Unit {0})
        z = heard from a r d.intents t.coord

        by : Goes (Unasked k d t M right) (IsYes a r) t.coord (heard from a r d.intents t.coord).part
            (heard from a r d.intents t.coord).outs → Walks IsStocked e k (heard from a r d.intents t.coord).outs
            (Up IsStocked k (with_coord t (heard from a r d.intents t.coord).part)) d M
        by (Still telling calm) = still_stock (with_coord t (heard from a r d.intents t.coord).part)
            (heard from a r d.intents t.coord).outs calm (moves.plain_sends (heard from a r d.intents t.coord).part
            (heard from a r d.intents t.coord).outs (moves.well k d t M right e from m there a r of).1)
            (heard_so right.0.0.0.0.0.0 (paths_of right.0.0.0.0.0.0) (moves.tree k d t M right e) t.coord (moves.coords k d t M right e)
            numbered (moves.long k d t M right e) from a r d.intents) known
        by (Decided u q p found now part outs known_yes) = decided_stock joins u q p found now
            (with_coord t (heard from a r d.intents t.coord).part) part (heard from a r d.intents t.coord).outs outs known

    pub act_stock : (hd : Header) (i : Input) (is : is_act i ≡ true) (free : refusal_up hd i t.coord ≡ None) →
        (let z = acts i d.intents t.coord in Walks IsRight e k z.outs (Up IsRight k (with_coord t z.part)) d M →
        Walks IsStocked e k z.outs (Up IsStocked k (with_coord t z.part)) d M)
    act_stock hd i is free known = by (moves.act_goes k d t M right e hd i is free)
      where
        by : Goes (Unasked k d t M right) (λ u. ⊥) t.coord (acts i d.intents t.coord).part (acts i d.intents t.coord).outs →
            Walks IsStocked e k (acts i d.intents t.coord).outs (Up IsStocked k (with_coord t (acts i d.intents t.coord).part)) d M
        by (Still telling calm) =
            still_stock (with_coord t (acts i d.intents t.coord).part) (acts i d.intents t.coord).outs calm (moves.plain_sends
            (acts i d.intents t.coord).part (acts i d.intents t.coord).outs (moves.act_well k d t M right e hd i is free).1)
            (acts_so right.0.0.0.0.0.0 (paths_of right.0.0.0.0.0.0) (moves.tree k d t M right e) t.coord (moves.coords k d t M right e)
            numbered (moves.long k d t M right e) i d.intents (moves.other k d t M right e hd i is free)) known
        by (Decided u q p found now part outs known_yes) = decided_stock joins u q p found now
            (with_coord t (acts i d.intents t.coord).part) part (acts i d.intents t.coord).outs outs known

  pub tick_stock : (let r = again_all t.coord.doings t.coord in
      Walks IsRight e k (tick_outs (record { number = k; disk = d; live = Some t }) t) (Up IsRight k (with_coord t r.part)) d M →
      Walks IsStocked e k (tick_outs (record { number = k; disk = d; live = Some t }) t) (Up IsStocked k (with_coord t r.part)) d M)
  tick_stock known =
      let r = again_all t.coord.doings t.coord in
      let tolds = tolds_again t.coord.telling in
      let queries = map query_about (holders d t) in
      let U = Unasked k d t M right in
      let begun = right.0.0.0.0.0.0 in
      let well = well_again begun (paths_of begun) (moves.tree k d t M right e) t.coord (moves.coords k d t M right e) in
      still_stock (with_coord t r.part) (r.outs ++ tolds ++ queries)
      (calm_both U t.coord r.part (r.outs ++ tolds) queries (calm_both U t.coord r.part r.outs tolds (again_calm U begun (paths_of begun)
      (moves.tree k d t M right e) t.coord (moves.coords k d t M right e) (moves.long k d t M right e) (moves.uses k d t M right e)
      numbered) (moves.tolds_calm U t.coord r.part t.coord.telling)) (moves.queries_calm U t.coord r.part (holders d t)))
      (moves.plain_both (r.outs ++ tolds) queries (moves.plain_both r.outs tolds (moves.plain_sends r.part r.outs well.1)
      (moves.tolds_plain t.coord.telling)) (moves.queries_plain (holders d t)))
      (so_both r.part (r.outs ++ tolds) queries (so_both r.part r.outs tolds (again_so begun (paths_of begun) (moves.tree k d t M right e)
      t.coord (moves.coords k d t M right e) numbered (moves.long k d t M right e)) (tolds_so r.part t.coord.telling))
      (asked_none r.part (holders d t)))
      known
    where
      asked_none : (c : Coord) (us : List Uid) → AllSo c (map query_about us)
      asked_none c [] = tt
      asked_none c (u ∷ us) = ((λ h a is. absurd (cc is)), asked_none c us)

-- ---- an acknowledgement

module _ (k : ℕ) (d : Disk) (t : Parts) (M : Seen) (right : IsRight (up k d t M)) (stock : IsStocked (up k d t M)) (e : ℕ) (from : ℕ)
    (u : Uid) (acks_it : IsAcked M.sent from u) (v : Parts) where
  abbrev Start : Seen
  Start = up k d t M

  its_node : Start.nodes k ≡ Some (the_node k d (Some t))
  its_node = here_is k d (Some t) M

  abbrev Quiet : Post → Type 0
  Quiet z = ((h : Head) (g : Grants) (x y : Marks) → asks z.message ≡ Some (h, ask.Confirm g x y) → ⊥)
      × ((w : Uid) → z.message ≡ message.Acked (record { act = w }) → ⊥)

  module _ (c : Disk) (store : c.store ≡ d.store) (recs : (x : Uid) (j : Intent) → at_uid x c.intents ≡ Some j →
      at_uid x d.intents ≡ Some j) (lists : (x : Uid) (j : Intent) (n : ℕ) → at_uid x d.intents ≡ Some j → has j.nodes n ≡ true →
      (at_uid x c.intents ≡ Some j) ⊎ IsAcked M.sent n x) where
    abbrev These : Disk → Type 0
    These b = b ≡ c

    acked_at : (Z : Seen) (w : Went k M IsUndeciding Quiet (Either These v) Z) → IsStocked Z
    acked_at Z w = stocked_on k d (Some t) M IsUndeciding Quiet (Either These v) Z w stock
        (store_fed k d (Some t) M IsUndeciding Quiet (Either These v) Z w (ap (λ (b : Disk). b.store) w.fits.0 ∙ store) done listed
        (λ z so h g x y is undone. so.0 h g x y is) (λ z so x is. so.1 x is))
      where
        done : (x : Uid) (y n : ℕ) → IsIncluded (up k d t M) x y n → IsDone Z x →
            IsDone (up k d t M) x ⊎ ((IsHeld Z n x × Lists Z x n) × (IsAcked M.sent n x → ⊥))
        done x y n included (inl on) =
            inl (inl (undecided M.lines w.more w.said_so x (subst (λ ls. is_decided (book ls) x ≡ true) w.lines on)))
        done x y n included (inr (a, j, is, at_it)) = ⊎_elim
            (λ mine. inl (inr (
              the_node k d (Some t),
              j,
              ap Start.nodes mine.0 ∙ its_node,
              recs x j (ap (λ (b : Disk). at_uid x b.intents) (sym w.fits.0)
                  ∙ ap (λ (z : Node). let b = z.disk in at_uid x b.intents) (sym mine.1) ∙ at_it),
            )))
            (λ other. inl (inr (a, j, other.1, at_it)))
            (now_cases k d (Some t) M IsUndeciding Quiet (Either These v) Z w x.node a is)

        listed : (x : Uid) (y n : ℕ) → IsIncluded (up k d t M) x y n → IsDone (up k d t M) x → Lists (up k d t M) x n →
            Lists Z x n ⊎ IsStored (up k d t M) n y
        listed x y n included was (a, j, is, at_it, on) = ⊎_elim
            (λ mine. ⊎_elim
            (λ stays.
            inl (the_node k w.disk w.live, j, ap Z.nodes mine.0 ∙ w.here, ap (λ (b : Disk). at_uid x b.intents) w.fits.0 ∙ stays, on))
            (λ acked_it. inr (stock.acked x y n included was acked_it))
            (lists x j n (ap (λ (z : Node). let b = z.disk in at_uid x b.intents) (sym mine.1) ∙ at_it) on))
            (λ other. inl (a, j, other.1, at_it, on))
            (was_cases k d (Some t) M IsUndeciding Quiet (Either These v) Z w x.node a is)

    acked_rest : (outs : List Effect) → AllByRecursion (FitsSo k M IsUndeciding Quiet quiet_undeciding tt These) outs →
        Walks IsRight e k outs (Up IsRight k v) c M → Walks IsStocked e k outs (Up IsStocked k v) c M
    acked_rest outs fits known =
        walk_by IsRight IsStocked k M IsUndeciding Quiet quiet_undeciding tt These v e outs c fits refl (λ Z its w. acked_at Z w) known

    acked_halt : IsRight (halted e k c M) → IsStocked (halted e k c M)
    acked_halt known = halt_by IsRight IsStocked k M IsUndeciding Quiet quiet_undeciding tt These v e c refl (λ Z its w. acked_at Z w) known

  tolds : (c : Disk) (o : Option Intent) →
      AllByRecursion (FitsSo k M IsUndeciding Quiet quiet_undeciding tt (λ b. b ≡ c)) (tolds_let_go u (without_uid u d.intents) t.coord o)
  tolds c None = tt
  tolds c (Some j) = one (not (uid_eq j.root u) && is_over (branch_of j.root t.coord.tree))
    where
      each : (ns : List ℕ) → AllByRecursion (FitsSo k M IsUndeciding Quiet quiet_undeciding tt (λ b. b ≡ c))
          (tell_all j.root false ((j.root, ending.Abort) ∷ []) ns)
      each [] = tt
      each (n ∷ ns) = (((λ h g x y z. cc z), (λ w z. cc z)), each ns)

      one : (b : Bool) → AllByRecursion (FitsSo k M IsUndeciding Quiet quiet_undeciding tt (λ b2. b2 ≡ c))
          (cond b (tell_all j.root false ((j.root, ending.Abort) ∷ []) (let_go j.root (without_uid u d.intents) t.coord j.nodes)) [])
      one true = each (let_go j.root (without_uid u d.intents) t.coord j.nodes)
      one false = tt

  nothing : Walks IsRight e k [] (Up IsRight k v) d M → Walks IsStocked e k [] (Up IsStocked k v) d M
  nothing z = acked_rest d refl (λ x j at_it. at_it) (λ x j n at_it on. inl at_it) [] tt z

  module _ (i : Intent) (at_it : at_uid u t.coord.telling ≡ Some i) (left : without_number from i.nodes ≡ [])
      (part : v.coord ≡ record t.coord { telling = without_uid u t.coord.telling }) where
    stops : (how : Stop) → IsRight (halted e k (stopped how (RemoveIntent u) d) M) →
        IsStocked (halted e k (stopped how (RemoveIntent u) d) M)
    stops Before z = stop_stock k d (Some t) M stock e
    stops After z = acked_halt (worked (RemoveIntent u) d) refl (acks.recs k d t M right e from u acks_it v i at_it left part)
        (acks.lists k d t M right e from u acks_it v i at_it left part) z
    stops (InPart which) z = stop_stock k d (Some t) M stock e

    all_left : Walks IsRight e k (Do (RemoveIntent u) ∷ tolds_let_go u (without_uid u d.intents) t.coord (at_uid u d.intents))
        (Up IsRight k v) d M → Walks IsStocked e k
        (Do (RemoveIntent u) ∷ tolds_let_go u (without_uid u d.intents) t.coord (at_uid u d.intents)) (Up IsStocked k v) d M
    all_left z = (
      (λ how. stops how (z.0 how)),
      acked_rest (worked (RemoveIntent u) d) refl (acks.recs k d t M right e from u acks_it v i at_it left part) (acks.lists k d t M right e
          from u acks_it v i at_it left part) (tolds_let_go u (without_uid u d.intents) t.coord (at_uid u d.intents))
          (tolds (worked (RemoveIntent u) d) (at_uid u d.intents)) z.1,
    )

  pub acked_stock : (outs : List Effect) → v.coord ≡ (acked from u d.intents t.coord).part → outs ≡ (acked from u d.intents t.coord).outs →
      Walks IsRight e k outs (Up IsRight k v) d M → Walks IsStocked e k outs (Up IsStocked k v) d M
  acked_stock outs part are known = subst (λ es. Walks IsStocked e k es (Up IsStocked k v) d M) (sym are)
      (by (at_uid u t.coord.telling) refl part (subst (λ es. Walks IsRight e k es (Up IsRight k v) d M) are known))
    where
      by : (o : Option Intent) → at_uid u t.coord.telling ≡ o → v.coord ≡ (acked_by from u d.intents t.coord o).part →
          Walks IsRight e k (acked_by from u d.intents t.coord o).outs (Up IsRight k v) d M →
          Walks IsStocked e k (acked_by from u d.intents t.coord o).outs (Up IsStocked k v) d M
      by None at_it same z = nothing z
      by (Some i) at_it same z = one (has i.nodes from) same z
        where
          left : (ns : List ℕ) → without_number from i.nodes ≡ ns → v.coord ≡ (acked_left u i d.intents t.coord ns).part →
              Walks IsRight e k (acked_left u i d.intents t.coord ns).outs (Up IsRight k v) d M →
              Walks IsStocked e k (acked_left u i d.intents t.coord ns).outs (Up IsStocked k v) d M
          left [] is same y = all_left i at_it is same y
          left (n ∷ ns) is same y = nothing y

          one : (b : Bool) → v.coord ≡ (cond {A = Served Coord (Unit {0})} b (acked_left u i d.intents t.coord (without_number from
              i.nodes)) (record { part = t.coord; outs = []; reply = None })).part → Walks IsRight e k (cond {A = Served Coord (Unit {0})} b
              (acked_left u i d.intents t.coord (without_number from i.nodes)) (record { part = t.coord; outs = []; reply = None })).outs
              (Up IsRight k v) d M → Walks IsStocked e k (cond {A = Served Coord (Unit {0})} b (acked_left u i d.intents t.coord
              (without_number from i.nodes)) (record { part = t.coord; outs = []; reply = None })).outs (Up IsStocked k v) d M
          one true its y = left (without_number from i.nodes) refl its y
          one false its y = nothing y
