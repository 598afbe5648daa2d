-- Of a decided top each included store has the object, in every run.
use Rattle.arj_law_parts.proofs.Words
use Words.{world_from}
use Words.{◌≡◌, ◌∙◌, ◌==◌, ◌+◌, ℕ, Bool, true, false, cond, List, [], ◌∷◌, Option, Some, None, refl, sym, ap, subst, inl, inr, ⊎_elim}
use Words.{AllByRecursion, object, Body, Header, Kind, Label, Message, ObjectState, Uid, begin_action, heard, Confirming, Plan, Committing}
use Words.{Doing, doing_of, Disk, Effect, Parts, with_coord, at_uid, has, Node, parent_of, parts_in, restart_outs, Labelled}
use Words.{numbered, Post, Seen, see, and_parts, list_all, is_serial}
use Words.body
use Words.ask
use Rattle.arj_law_promise.proofs.Terms
use Terms.{IsAtStarts}
use Terms.{HeaderFits, Keeps, AreQuiet, In, down, given, is_quiet_line, said, up, Up, Walks, all_at_uid, some_is, KeepsGiven, keeps_given}
use Terms.{kept_both, Own, all_each, first_at, AreSo as FormsAreSo, kind_of, stored, kept_forms, book, is_decided}
use Rattle.arj_law_promise.proofs.settling
use settling.{Cores.IsDone, Rights.Found, Rights.right_keep, Steps.Either, Stills.IsRight}
use settling.Cases.{Acks, Again, Asks, Beside, Ends, HandleCase, Hears, Prepares, handle_case}
use settling.JoinRuns.{JoinsAreSaid, SaysJoins, joins_keep}
use settling.Lights.{AllUndeciding, HasThese, undecided, IsIdleSend}
use settling.Milds.{here_is, lists_on, recorded_back, the_node}
use settling.StockCoords.{act_stock, acked_stock, heard_stock, same_stock, stop_stock, store_fed, tick_stock}
use settling.StockParts.{AreObjects, again_stock, asks_stock, beside_stock, ends_stock, prepares_stock, quiet_undeciding}
use settling.Stocks.{IsIncluded, IsStocked, stocked_on, walk_by}
use settling.Trails.{LineMild, Went, mild_decides, quiet_mild}
use Rattle.arj_law_promise.proofs.settling.Rights as rights

-- what is known beside
abbrev pub StockBase : Header → Seen → Type 0
StockBase hd M = (IsRight M × JoinsAreSaid M) × FormsAreSo (kind_of hd 0) M

-- ---- what is known of a node

module _ (hd : Header) (k : ℕ) (d : Disk) (t : Parts) (M : Seen) (base : StockBase hd (up k d t M)) where
  here : (let S = up k d t M in S.nodes k) ≡ Some (the_node k d (Some t))
  here = here_is k d (Some t) M

  says : SaysJoins M.sent
  says = base.0.1.1.0

  -- what it has prepared is of objects
  own : (u : Uid) (ss : List ObjectState) → at_uid u (let s = d.store in s.pend) ≡ Some ss → AreObjects ss
  own u ss at_it =
      let n = base.1.0 k (the_node k d (Some t)) here in
      let s = n.0.store in
      all_each (Own (stored (kind_of hd 0))) (λ (st : ObjectState). st.uid ≡ object st.uid.num) ss (λ st its. its.0)
      (all_at_uid (AllByRecursion (Own (stored (kind_of hd 0)))) u ss (let z = d.store in z.pend) s.pend at_it)

  -- a commit that asks naming had each included store's Yes
  joins : (u : Uid) (q : Doing) (p : Plan) → doing_of u t.coord ≡ Some q → q.now ≡ Committing (Confirming p) → (x n : ℕ) → u.node ≡ k →
      IsIncluded (up k d t M) u x n → has p.prepared n ≡ true
  joins u q p found now x n home (r, i, from, rest_h, g, e, l, is, act, there) =
      let c = base.0.1.1.1 k (the_node k d (Some t)) t here refl in
      let j = c.1.1 u q (Confirming p) found now in
      j.2 x n (r, i, from ∙ home, rest_h, g, e, l, is, act, there)

  module _ (stock : IsStocked (up k d t M)) (e : ℕ) where
    message_stock : (v : Parts) (from : ℕ) (m : Message) (outs : List Effect) → In (record { from = from; to = k; message = m }) M.sent →
        HandleCase k d t from m v outs → Walks IsRight e k outs (Up IsRight k v) d M → Walks IsStocked e k outs (Up IsStocked k v) d M
    message_stock v from m outs there (Beside same all) known = beside_stock k d t M base.0.0 says stock own e v outs all known
    message_stock v from m outs there (Prepares h states asking same are) known =
        prepares_stock k d t M base.0.0 says stock own e v from m there h states asking outs are known
    message_stock v from m outs there (Again h states asking on same are) known =
        again_stock k d t M base.0.0 says stock own e v from m there h states asking outs are known
    message_stock v from m outs there (Ends u how ack rest last same all are) known =
        ends_stock k d t M base.0.0 says stock own e v from m there u how last rest ack outs all are known
    message_stock v from m outs there (Asks u same is are) known = asks_stock k d t M base.0.0 says stock own e v from u outs are known
    message_stock v from m outs there (Hears a r of is are) known =
        subst (λ x. Walks IsStocked e k outs (Up IsStocked k x) d M) (sym is) (subst
        (λ es. Walks IsStocked e k es (Up IsStocked k (with_coord t (let q = heard from a r d.intents t.coord in q.part))) d M) (sym are)
        (heard_stock k d t M base.0.0 says stock e joins from m there a r of (subst (λ x. Walks IsRight e k (let q = heard from a r
        d.intents t.coord in q.outs) (Up IsRight k x) d M) is (subst (λ es. Walks IsRight e k es (Up IsRight k v) d M) are known))))
    message_stock v from m outs there (Acks u is part are) known =
        acked_stock k d t M base.0.0 stock e from u (record { from = from; to = k; message = m }, there, refl, is) v outs part are known

-- ---- a restart

module _ (hd : Header) (k : ℕ) (d : Disk) (M : Seen) (right : IsRight (down k d M)) (stock : IsStocked (down k d M)) (e : ℕ) where
  abbrev S : Seen
  S = down k d M

  abbrev Lines : Body → Type 0
  Lines = LineMild (Found hd k d M right e) (let B = book M.lines in B.acts)

  abbrev Idle : Post → Type 0
  Idle p = IsIdleSend p.message

  abbrev new : Parts
  new = parts_in k (d.inc + 1) d

  restart_at : (Z : Seen) (w : Went k M Lines Idle (Either (HasThese d) new) Z) → IsStocked Z
  restart_at Z w = stocked_on k d None M Lines Idle (Either (HasThese d) new) Z w stock
      (store_fed k d None M Lines Idle (Either (HasThese d) new) Z w w.fits.0.0
      (λ u x n included done. inl (was_done u done))
      (λ u x n included was listed. inl (lists_on k d None M Lines Idle (Either (HasThese d) new) Z w w.fits.0.1 u n listed))
      (λ p so h g x i is undone. let z = so.0 in z.0 h (ask.Confirm g x i) is)
      (λ p so u is. let z = so.1 in z.1 u is))
    where
      was_done : (u : Uid) → IsDone Z u → IsDone (down k d M) u
      was_done u (inr r) = inr (recorded_back k d None M Lines Idle (Either (HasThese d) new) Z w w.fits.0.1 u r)
      was_done u (inl on) = ⊎_elim (λ old. inl old) (λ found. inr (
        the_node k d None,
        found.0,
        ap (λ j. (let X = down k d M in X.nodes j)) (rights.its_home hd k d M right e u found) ∙ here_is k d None M,
        found.1,
      )) (mild_decides (Found hd k d M right e) M.lines w.more w.said_so u (subst (λ ls. is_decided (book ls) u ≡ true) w.lines on))

  restart_stock : Walks IsRight e k (restart_outs hd k (d.inc + 1) d) (Up IsRight k (parts_in k (d.inc + 1) d)) d M →
      Walks IsStocked e k (restart_outs hd k (d.inc + 1) d) (Up IsStocked k (parts_in k (d.inc + 1) d)) d M
  restart_stock known = walk_by IsRight IsStocked k M Lines Idle (quiet_mild (Found hd k d M right e) (let B = book M.lines in B.acts)) tt
      (HasThese d) (parts_in k (d.inc + 1) d) e (restart_outs hd k (d.inc + 1) d) d (rights.restart_fits hd k d M right e) (refl, refl)
      (λ Z its w. restart_at Z w) known

-- ---- lines

quiet_lines : (e : ℕ) (bs : List Body) → AreQuiet bs → AllUndeciding (numbered e bs)
quiet_lines e [] q = tt
quiet_lines e (b ∷ bs) q = let p = and_parts (is_quiet_line b) (list_all is_quiet_line bs) q in
    (quiet_undeciding b p.0, quiet_lines e bs p.1)

quiet_stock : (e : ℕ) (bs : List Body) (M : Seen) → AreQuiet bs → IsStocked M → IsStocked (said e bs M)
quiet_stock e bs M q stock = same_stock M (said e bs M) refl (λ n a is. (a, is, refl)) (λ n a is. (a, is, refl))
    (λ u on. undecided M.lines (numbered e bs) (quiet_lines e bs q) u on) stock

-- ---- an action begins

begun_stock : (e k : ℕ) (d : Disk) (t v : Parts) (M : Seen) (l : Label) (g : Labelled) (how : Kind) (u : Uid) (parent : Option Label) →
    IsStocked (up k d t M) → IsStocked (up k d v (said e (body.Began l how u parent ∷ []) (given l g M)))
begun_stock e k d t v M l g how u parent stock =
    same_stock (up k d t M) (up k d v (said e (body.Began l how u parent ∷ []) (given l g M))) refl
    (λ n a is. change n t v (n == k) a is) (λ n a is. change n v t (n == k) a is)
    (λ w on. undecided M.lines (record { event = e; body = body.Began l how u parent } ∷ []) (tt, tt) w on) stock
  where
    change : (n : ℕ) (x y : Parts) (b : Bool) (a : Node) → cond b (Some (the_node k d (Some y))) (M.nodes n) ≡ Some a →
        (c : Node) × (cond b (Some (the_node k d (Some x))) (M.nodes n) ≡ Some c) × (c.disk ≡ a.disk)
    change n x y true a is = (the_node k d (Some x), refl, ap (λ (z : Node). z.disk) (some_is is))
    change n x y false a is = (a, is, refl)

-- ---- at first

first_stock : (hd : Header) → IsAtStarts hd IsStocked
first_stock hd st formed = record {
  pend = λ n a u ss is at_it. absurd (none n a u ss is at_it);
  done = λ u x n included done. absurd included.1;
  acked = λ u x n included done acked. absurd included.1;
}
  where
    none : (n : ℕ) (a : Node) (u : Uid) (ss : List ObjectState) → (let W = see [] (world_from hd st) in W.nodes n) ≡ Some a →
        at_uid u (let d = a.disk in let s = d.store in s.pend) ≡ Some ss → ⊥
    none n a u ss is at_it = let no_way : ◌≡◌ {A = Option (List ObjectState)} None (Some ss) = ap
        (λ (z : Node). at_uid u (let d = z.disk in let s = d.store in s.pend)) (first_at hd st n a is) ∙ at_it in cc no_way

-- ---- all handlers

pub stock_given : (hd : Header) → KeepsGiven hd (StockBase hd) IsStocked
stock_given hd = record {
  quiet = λ e bs M q base stock. quiet_stock e bs M q stock;
  stop = λ e k d live M base stock. stop_stock k d live M stock e;
  message = λ e k d t v from m outs M base stock there meant is. message_stock hd k d t M base stock e v from m outs there
      (handle_case k d t from m v outs is) (its.message e k d t v from m outs M base.0.0 there meant is);
  act = λ e k d t i M is free base stock.
      act_stock k d t M base.0.0 (says hd k d t M base) stock e (joins hd k d t M base) hd i is free (its.act e k d t i M is free base.0.0);
  begin = λ e k d t l how parent M new_it may free base stock. begun_stock e k d t (with_coord t (begin_action l how parent
      (parent_of parent t.coord) t.coord).part) M l (record { node = k; serial = is_serial how }) how _ parent stock;
  tick = λ e k d t M base stock. tick_stock k d t M base.0.0 (says hd k d t M base) stock e (its.tick e k d t M base.0.0);
  restart = λ e k d M base stock. restart_stock hd k d M base.0.0 stock e (its.restart e k d M base.0.0);
  first = first_stock hd;
}
  where
    its : Keeps hd IsRight
    its = right_keep hd

pub base_keep : (hd : Header) → HeaderFits hd → Keeps hd (StockBase hd)
base_keep hd form = kept_both hd (λ M. IsRight M × JoinsAreSaid M) (FormsAreSo (kind_of hd 0))
    (kept_both hd IsRight JoinsAreSaid (right_keep hd) (keeps_given hd IsRight JoinsAreSaid (joins_keep hd)))
    (keeps_given hd (λ M. IsRight M × JoinsAreSaid M) (FormsAreSo (kind_of hd 0)) (kept_forms hd 0 form))

-- with it
abbrev pub StocksAreKnown : Header → Seen → Type 0
StocksAreKnown hd M = StockBase hd M × IsStocked M

pub stocks_keep : (hd : Header) → HeaderFits hd → Keeps hd (StocksAreKnown hd)
stocks_keep hd form = kept_both hd (StockBase hd) IsStocked (base_keep hd form) (stock_given hd)
