-- What is known of naming, of its answers and of the entries that are prepared, is kept by all handlers.
use Rattle.arj_law_parts.proofs.Words
use Words.{◌≡◌, ◌∙◌, ◌≤◌, ◌==◌, ℕ, Bool, true, false, cond, List, [], ◌∷◌, refl, sym, ap, subst, inr, ⊎_elim, eqb-true, Option, Some, None}
use Words.{AllByRecursion, match_ordering, Ordering, Less, Equal, Greater, uid_order, Asked, ObjectState, Uid, asks, Reply, Abort, After}
use Words.{Before, Commit, Disk, Do, Effect, InPart, Look, Prepare, PutInc, PutIntent, RemoveIntent, Say, Send, Stop, Work, stopped, worked}
use Words.{Parts, put_uid, Node, Post, Seen}
use Words.list
use Words.role
use Rattle.arj_law_lock_view.proofs.Terms
use Terms.{other_number, same_number, at, posted, said, up, Up, Walks, all_without, some_is, AreAnswered, AreConfirmed, IsAnswer, IsConfirm}
use Terms.{WasConfirmed, AnswersClaim, EntriesConfirmed, Passes, Tests}
use Terms.keys
use Rattle.arj_law_lock_view.proofs.records.{NamingWalks.AllClaim, NamingWalks.AllConfirm, NamingWalks.Confirms, Quiet.IncUp, Quiet.IncsUp}
use Rattle.arj_law_lock_view.specs.records.Claims.{RecordsAreFirst}
use Rattle.arj_law_parts.specs.moves.Seen.{In}

-- ---- the disk's incarnation

pub inc_worked : (least : ℕ) (w : Work) (d : Disk) → IncUp least (Do w) → least ≤ d.inc → least ≤ (worked w d).inc
inc_worked least Look d fine le = le
inc_worked least (PutInc i) d fine le = fine
inc_worked least (Prepare role.Store u states) d fine le = le
inc_worked least (Prepare role.Names u states) d fine le = le
inc_worked least (Commit role.Store u) d fine le = le
inc_worked least (Commit role.Names u) d fine le = le
inc_worked least (Abort role.Store u) d fine le = le
inc_worked least (Abort role.Names u) d fine le = le
inc_worked least (PutIntent u i) d fine le = le
inc_worked least (RemoveIntent u) d fine le = le

pub inc_stopped : (least : ℕ) (how : Stop) (w : Work) (d : Disk) → IncUp least (Do w) → least ≤ d.inc → least ≤ (stopped how w d).inc
inc_stopped least Before w d fine le = le
inc_stopped least After w d fine le = inc_worked least w d fine le
inc_stopped least (InPart which) Look d fine le = le
inc_stopped least (InPart which) (PutInc i) d fine le = le
inc_stopped least (InPart which) (Prepare r u states) d fine le = le
inc_stopped least (InPart which) (Commit role.Store u) d fine le = le
inc_stopped least (InPart which) (Commit role.Names u) d fine le = le
inc_stopped least (InPart which) (Abort r u) d fine le = le
inc_stopped least (InPart which) (PutIntent u i) d fine le = le
inc_stopped least (InPart which) (RemoveIntent u) d fine le = le

-- ---- answers

module _ (base : List Post) (Ok : Tests → Type 0) where
  pub answer_walk : (e k : ℕ) (v : Parts) (outs : List Effect) (d : Disk) (M : Seen) (least : ℕ) → ((T : Tests) → Ok T → AllClaim base k T
      outs) → ((p : Post) → In p base → In p M.sent) → ((T : Tests) → Ok T → AreAnswered T M.sent) → IncsUp least outs → least ≤ d.inc
      → ((c : Disk) → least ≤ c.inc → (T : Tests) → Passes T (at k c None M) → Ok T) →
      ((c : Disk) → least ≤ c.inc → (T : Tests) → Passes T (up k c v M) → Ok T) → Walks AnswersClaim e k outs (Up AnswersClaim k v) d M
  answer_walk e k v [] d M least claims within old incs le stops ends = λ T passes. old T (ends d le T passes)
  answer_walk e k v (Do w ∷ es) d M least claims within old incs le stops ends = (
    λ how T passes. old T (stops (stopped how w d) (inc_stopped least how w d incs.0 le) T passes),
    answer_walk e k v es (worked w d) M least (λ T ok. (claims T ok).1) within old incs.1 (inc_worked least w d incs.0 le) stops ends,
  )
  answer_walk e k v (Say b ∷ es) d M least claims within old incs le stops ends =
      answer_walk e k v es d (said e (b ∷ []) M) least (λ T ok. (claims T ok).1) within old incs.1 le stops ends
  answer_walk e k v (Send to m ∷ es) d M least claims within old incs le stops ends = λ more quiet. answer_walk e k v es d
      (said e more (posted (record { from = k; to = to; message = m }) M)) least (λ T ok. (claims T ok).1) (λ p i. inr (within p i))
      (λ T ok. ((λ a r is. widen T a r ((claims T ok).0 a r is)), old T ok)) incs.1 le stops ends
    where
      widen : (T : Tests) (a : Asked) (r : Reply) → IsAnswer T base (record { from = k; to = to; message = m }) a r →
          IsAnswer T M.sent (record { from = k; to = to; message = m }) a r
      widen T a r z = record {
        post = z.post;
        head = z.head;
        ask = z.ask;
        posted = within z.post z.posted;
        from = z.from;
        asking = z.asking;
        asker = z.asker;
        so = z.so;
      }

-- ---- entries

-- one message more
was_more : (p : Post) (sent : List Post) (top : Uid) (x : ℕ) → RecordsAreFirst (p ∷ sent) → WasConfirmed sent top x →
    WasConfirmed (p ∷ sent) top x
was_more p sent top x first was = record {
  grants = was.grants;
  excluded = was.excluded;
  included = was.included;
  confirm = (let c = was.confirm in
      record { post = c.post; head = c.head; posted = inr c.posted; asking = c.asking; top_is = c.top_is; actor_is = c.actor_is });
  marked = was.marked;
  inc = was.inc;
  one = was.one;
  late = λ b g r. ⊎_elim
      (λ same. absurd (first.0 r.head x b r.inc g (ap (λ (z : Post). asks z.message) same ∙ r.asking) was.grants was.excluded was.included
      (subst (λ u. IsConfirm sent u was.grants was.excluded was.included) (sym r.top_is) was.confirm)))
      (λ old. was.late b g (record { post = r.post; head = r.head; inc = r.inc; posted = old; asking = r.asking; top_is = r.top_is }))
      r.posted;
}

abbrev OfEntry : List Post → Uid × List ObjectState → Type 0
OfEntry sent e = (s : ObjectState) → list.In s e.1 → WasConfirmed sent e.0 (let u = s.uid in u.num)

all_more : (sent more : List Post) → ((top : Uid) (x : ℕ) → WasConfirmed sent top x → WasConfirmed more top x) →
    (ps : List (Uid × List ObjectState)) → AllByRecursion (OfEntry sent) ps → AllByRecursion (OfEntry more) ps
all_more sent more up [] all = tt
all_more sent more up (e ∷ es) all = ((λ s i. up e.0 s.uid.num (all.0 s i)), all_more sent more up es all.1)

put_all : (sent : List Post) (u : Uid) (states : List ObjectState) → OfEntry sent (u, states) → (ps : List (Uid × List ObjectState)) →
    AllByRecursion (OfEntry sent) ps → AllByRecursion (OfEntry sent) (put_uid u states ps)
put_all sent u states its [] all = (its, tt)
put_all sent u states its (e ∷ es) all = by (uid_order u e.0) refl (put_all sent u states its es all.1)
  where
    by : (r : Ordering) → uid_order u e.0 ≡ r → AllByRecursion (OfEntry sent) (put_uid u states es) →
        AllByRecursion (OfEntry sent) (match_ordering r ((u, states) ∷ e ∷ es) ((e.0, states) ∷ es) (e ∷ put_uid u states es))
    by Less is ih = (its, all)
    by Equal is ih = (subst (λ v. OfEntry sent (v, states)) (keys.order_exact u e.0 is) its, all.1)
    by Greater is ih = (all.0, ih)

names_worked : (sent : List Post) (k : ℕ) (w : Work) (d : Disk) → Confirms sent k (Do w) → AreConfirmed sent d.names →
    AreConfirmed sent (worked w d).names
names_worked sent k Look d fine all = all
names_worked sent k (PutInc i) d fine all = all
names_worked sent k (Prepare role.Store u states) d fine all = all
names_worked sent k (Prepare role.Names u states) d fine all = put_all sent u states fine d.names.pend all
names_worked sent k (Commit role.Store u) d fine all = all
names_worked sent k (Commit role.Names u) d fine all = all_without (OfEntry sent) u d.names.pend all
names_worked sent k (Abort role.Store u) d fine all = all
names_worked sent k (Abort role.Names u) d fine all = all_without (OfEntry sent) u d.names.pend all
names_worked sent k (PutIntent u i) d fine all = all
names_worked sent k (RemoveIntent u) d fine all = all

pub names_stopped : (sent : List Post) (k : ℕ) (how : Stop) (w : Work) (d : Disk) → Confirms sent k (Do w) → AreConfirmed sent d.names →
    AreConfirmed sent (stopped how w d).names
names_stopped sent k Before w d fine all = all
names_stopped sent k After w d fine all = names_worked sent k w d fine all
names_stopped sent k (InPart which) Look d fine all = all
names_stopped sent k (InPart which) (PutInc i) d fine all = all
names_stopped sent k (InPart which) (Prepare r u states) d fine all = all
names_stopped sent k (InPart which) (Commit role.Store u) d fine all = all
names_stopped sent k (InPart which) (Commit role.Names u) d fine all = all
names_stopped sent k (InPart which) (Abort r u) d fine all = all
names_stopped sent k (InPart which) (PutIntent u i) d fine all = all
names_stopped sent k (InPart which) (RemoveIntent u) d fine all = all

confirms_more : (base sent : List Post) (k : ℕ) (w : Work) → ((top : Uid) (x : ℕ) → WasConfirmed base top x → WasConfirmed sent top x) →
    Confirms base k (Do w) → Confirms sent k (Do w)
confirms_more base sent k (Prepare role.Names u states) up fine = λ s i. up u s.uid.num (fine s i)
confirms_more base sent k (Prepare role.Store u states) up fine = tt
confirms_more base sent k Look up fine = tt
confirms_more base sent k (PutInc i) up fine = tt
confirms_more base sent k (Commit r u) up fine = tt
confirms_more base sent k (Abort r u) up fine = tt
confirms_more base sent k (PutIntent u i) up fine = tt
confirms_more base sent k (RemoveIntent u) up fine = tt

-- naming's disk here, or at another node
pub record AreHere (k : ℕ) (d : Disk) (M : Seen) : Type 0 where
  pub own : (k ≡ 1) → RecordsAreFirst M.sent → AreConfirmed M.sent d.names
  pub others : (n : Node) → (1 ≡ k → ⊥) → M.nodes 1 ≡ Some n → RecordsAreFirst M.sent → AreConfirmed M.sent (let c = n.disk in c.names)

pub entries_back : (k : ℕ) (d : Disk) (live : Option Parts) (M : Seen) → AreHere k d M → EntriesConfirmed (at k d live M)
entries_back k d live M here first n is = by (1 == k) refl is
  where
    by : (b : Bool) → (1 == k) ≡ b → cond b (Some (record { number = k; disk = d; live = live })) (M.nodes 1) ≡ Some n →
        AreConfirmed M.sent (let c = n.disk in c.names)
    by true same e =
        subst (λ (z : Node). AreConfirmed M.sent (let c = z.disk in c.names)) (some_is e) (here.own (sym (eqb-true 1 k same)) first)
    by false apart e =
        here.others n (λ same. let no_way : true ≡ false = sym (same_number k) ∙ ap (λ z. z == k) (sym same) ∙ apart in cc no_way) e first

stands_at : (k : ℕ) (d : Disk) (live : Option Parts) (M : Seen) →
    (let S = at k d live M in S.nodes k) ≡ Some (record { number = k; disk = d; live = live })
stands_at k d live M = λ i. cond (same_number k i) (Some (record { number = k; disk = d; live = live })) (M.nodes k)

pub entries_here : (k : ℕ) (d : Disk) (live : Option Parts) (M : Seen) → EntriesConfirmed (at k d live M) → AreHere k d M
entries_here k d live M all = record {
  own = λ is first. all first (record { number = k; disk = d; live = live })
      (subst (λ j. (let S = at k d live M in S.nodes j) ≡ Some (record { number = k; disk = d; live = live })) is (stands_at k d live M));
  others = λ n apart is first.
      all first n ((λ i. cond (other_number 1 k apart i) (Some (record { number = k; disk = d; live = live })) (M.nodes 1)) ∙ is);
}

pub entry_walk : (base : List Post) (e k : ℕ) (v : Parts) (outs : List Effect) (d : Disk) (M : Seen) → AllConfirm base k outs →
    (RecordsAreFirst M.sent → (top : Uid) (x : ℕ) → WasConfirmed base top x → WasConfirmed M.sent top x) → AreHere k d M →
    Walks EntriesConfirmed e k outs (Up EntriesConfirmed k v) d M
entry_walk base e k v [] d M fine up here = entries_back k d (Some v) M here
entry_walk base e k v (Do w ∷ es) d M fine up here = (
  λ how. entries_back k (stopped how w d) None M (record {
    own = λ is first. names_stopped M.sent k how w d (confirms_more base M.sent k w (up first) fine.0) (here.own is first);
    others = here.others;
  }),
  entry_walk base e k v es (worked w d) M fine.1 up (record {
    own = λ is first. names_worked M.sent k w d (confirms_more base M.sent k w (up first) fine.0) (here.own is first);
    others = here.others;
  }),
)
entry_walk base e k v (Say b ∷ es) d M fine up here =
    entry_walk base e k v es d (said e (b ∷ []) M) fine.1 up (record { own = here.own; others = here.others })
entry_walk base e k v (Send to m ∷ es) d M fine up here =
    λ more quiet. entry_walk base e k v es d (said e more (posted (record { from = k; to = to; message = m }) M)) fine.1
    (λ first top x was. was_more (record { from = k; to = to; message = m }) M.sent top x first (up first.1 top x was))
    (record {
      own = λ is first. all_more M.sent (record { from = k; to = to; message = m } ∷ M.sent)
          (λ top x was. was_more (record { from = k; to = to; message = m }) M.sent top x first was) d.names.pend (here.own is first.1);
      others = λ n apart is first. all_more M.sent (record { from = k; to = to; message = m } ∷ M.sent)
          (λ top x was. was_more (record { from = k; to = to; message = m }) M.sent top x first was) (let c = n.disk in let p = c.names in
          p.pend) (here.others n apart is first.1);
    })
