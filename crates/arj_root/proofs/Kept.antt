-- What a root keeps goes on fitting a plan.
use Rattle.std.proofs.Common.{◌≡◌, ℕ, Bool, true, false, not, ◌&&◌, ◌==◌, List, [], ◌∷◌, ◌++◌, Option, Some, None, unwrap_or, IfSome, map}
use Rattle.std.proofs.Common.{filter, cond, if◌then◌else◌, refl, ap, sym, subst, ◌∙◌, arith}
use Rattle.std.specs.Prelude.{⊤}
use Rattle.std.specs.List.{AllByRecursion, flat_map}
use Rattle.std.specs.List.Sorted.{IsStrictlySortedBy}
use Rattle.std.specs.BTreeMap.{is_at}
use Rattle.std.specs.Map.{keys_of, set_value}
use Rattle.std.specs.Ordering.{nat_cmp, is_eq, match_ordering}
use Rattle.std.specs.FinMap.{nat_cmp-IsAntisymmetric}
use Rattle.std.specs.declared.cmp.Ordering.{Ordering}
use Rattle.std.specs.declared.cmp.Ordering.TheVariants.{Less, Equal, Greater}
use Rattle.std.proofs.lemmas.Bool.Decides.{nat_tests}
use Rattle.arj_base.specs.declared.state.ObjectState.{ObjectState}
use Rattle.arj_bind.specs.Heard.{awaited, granted_in, heard_in, hears, gives_up}
use Rattle.arj_commit.proofs.Nodes.{all_set}
use Rattle.arj_commit.specs.Fits.{IsNode, UsedFits, PlanFits}
use Rattle.arj_msg.specs.Sendable.{IsSendable, BoundSends}
use Rattle.arj_msg.specs.declared.message.Asked.{Asked}
use Rattle.arj_msg.specs.declared.message.BoundReply.{BoundReply}
use Rattle.arj_msg.specs.declared.message.BoundReply.TheVariants as bound
use Rattle.arj_msg.specs.declared.message.InvokedReply.TheVariants as invoked
use Rattle.arj_msg.specs.declared.message.LoadedReply.TheVariants as loaded
use Rattle.arj_msg.specs.declared.message.Message.{Message}
use Rattle.arj_msg.specs.declared.message.Message.TheVariants as of
use Rattle.arj_msg.specs.declared.message.RecordedReply.TheVariants as recorded
use Rattle.arj_protocol.proofs.Maps.{put_other, put_same}
use Rattle.arj_protocol.specs.Ask.{Reply, answers, top_of}
use Rattle.arj_protocol.specs.Asking.{granted_by, notes_grant, root_moved, waits_for_call, keeps_after, renewed, given_away}
use Rattle.arj_protocol.specs.Call.{Known, Goal, Run, Include, Steps, At, AtBind, AtLoad, AtActivate, AtNote, AtInvoke, answered}
use Rattle.arj_protocol.specs.Call.{has_changed, moves, finds, with_inc, same_binding, other_binding, bound_by, bound_answer, activated_by}
use Rattle.arj_protocol.specs.Call.{recorded_kept, named_again, made_by, or_lost, load_from, live_known, made_known, write_known, Changed}
use Rattle.arj_protocol.specs.Call.{two_incs, two_bindings}
use Rattle.arj_protocol.specs.Commit.{Used, Plan, included_of, joins_left, is_marked}
use Rattle.arj_protocol.specs.Confirm.{marked, with_stores, without_stores}
use Rattle.arj_protocol.specs.Coord.{Coord, Root, Grant, keeping_of, with_keeping, Joined, Keeping, no_keeping, later_state, latest_of}
use Rattle.arj_protocol.specs.Coord.{joins_on, joined_with, same_join, or_kept_state, survives}
use Rattle.arj_protocol.specs.Ending.{keeping_after}
use Rattle.arj_protocol.specs.Order.{at_number, put_number, number_set, each, binding_eq, binding_less}
use Rattle.arj_protocol.specs.Words.{Uid, is_listed, with_store, without_store}
use Rattle.arj_root.specs.Kept.{HasNumber, JoinFits, AreJoins, Keepings, keeping_in, KnownFits, KeptFits, AreKept, changed_at, States}
use Rattle.arj_root.specs.Kept.{AreNumbered}
use Rattle.arj_root.proofs.Maps.{put_back}
use Rattle.arj_root.specs.Merged.{of_joins}

-- ---- lists

some_pass : {A : Type 0} (P : A → Type 0) (test : A → Bool) (items : List A) → AllByRecursion P items → AllByRecursion P (filter test items)
some_pass P test [] all = tt
some_pass {A} P test (a ∷ items) all = by (test a) (some_pass P test items all.1)
  where
    by : (b : Bool) → AllByRecursion P (filter test items) → AllByRecursion P (if b then a ∷ filter test items else filter test items)
    by true rest = (all.0, rest)
    by false rest = rest

-- one more at the end
pub all_more : {A : Type 0} (P : A → Type 0) (items : List A) (a : A) → AllByRecursion P items → P a → AllByRecursion P (items ++ a ∷ [])
all_more P [] a all is = (is, tt)
all_more P (b ∷ items) a all is = (all.0, all_more P items a all.1 is)

-- ---- maps

same : (n : ℕ) → nat_cmp n n ≡ Equal
same n = grind arith

turned : (n m : ℕ) → nat_cmp n m ≡ Less → nat_cmp m n ≡ Greater
turned n m less = grind (arith, less)

-- what is put last stands
pub put_put : {X : Type 0} (k : ℕ) (v w : X) (m : List (ℕ × X)) → put_number k v (put_number k w m) ≡ put_number k v m
put_put k v w [] = rw (same k) refl
put_put {X} k v w (e ∷ es) = by (nat_cmp k e.0) refl (put_put k v w es)
  where
    by : (r : Ordering) → nat_cmp k e.0 ≡ r → put_number k v (put_number k w es) ≡ put_number k v es
        → put_number k v (match_ordering r ((k, w) ∷ e ∷ es) ((e.0, w) ∷ es) (e ∷ put_number k w es)) ≡ match_ordering r ((k, v) ∷ e ∷ es) ((e.0, v) ∷ es) (e ∷ put_number k v es)
    by Less is ih = rw (same k) refl
    by Equal is ih = rw is refl
    by Greater is ih = rw is (ap (λ rest. e ∷ rest) ih)

-- what is put over what was written is put over what was there
pub put_over : {X : Type 0} (k : ℕ) (v new c : X) (m kept es : List (ℕ × X)) → at_number k m ≡ Some c →
    IsStrictlySortedBy nat_cmp (keys_of m)
    → es ≡ set_value (is_at (nat_cmp k)) m new → m ≡ kept → put_number k v es ≡ put_number k v kept
put_over k v new c m kept es at sorted written same =
    ap (put_number k v) (put_back k m es c new new at sorted written refl) ∙ put_put k v new m ∙ ap (put_number k v) same

pub kept_put : (x : ℕ) (k : Keeping) (m : Keepings) → AreKept m → KeptFits k.kept → AreKept (put_number x k m)
kept_put x k m all fits y = by (nat_cmp y x) refl
  where
    elsewhere : is_eq (nat_cmp y x) ≡ false → KeptFits ((keeping_in y (put_number x k m)).kept)
    elsewhere apart = subst (λ (o : Option Keeping). KeptFits ((unwrap_or o no_keeping).kept)) (sym (put_other x y k m apart)) (all y)

    by : (r : Ordering) → nat_cmp y x ≡ r → KeptFits ((keeping_in y (put_number x k m)).kept)
    by Less is = elsewhere (ap is_eq is)
    by Greater is = elsewhere (ap is_eq is)
    by Equal is =
        subst (λ n. KeptFits ((keeping_in n (put_number x k m)).kept)) (sym (nat_cmp-IsAntisymmetric y x is))
        (subst (λ (o : Option Keeping). KeptFits ((unwrap_or o no_keeping).kept)) (sym (put_same x k m)) fits)

pub numbered_put : (s : ObjectState) (m : States) → AreNumbered m → AreNumbered (put_number s.uid.num s m)
numbered_put s m all y = by (nat_cmp y s.uid.num) refl
  where
    x : ℕ
    x = s.uid.num

    elsewhere : is_eq (nat_cmp y x) ≡ false → IfSome (at_number y (put_number x s m)) (HasNumber y)
    elsewhere apart = subst (λ o. IfSome o (HasNumber y)) (sym (put_other x y s m apart)) (all y)

    by : (r : Ordering) → nat_cmp y x ≡ r → IfSome (at_number y (put_number x s m)) (HasNumber y)
    by Less is = elsewhere (ap is_eq is)
    by Greater is = elsewhere (ap is_eq is)
    by Equal is =
        subst (λ n. IfSome (at_number n (put_number x s m)) (HasNumber n)) (sym (nat_cmp-IsAntisymmetric y x is))
        (subst (λ o. IfSome o (HasNumber x)) (sym (put_same x s m)) refl)

-- a change at greater keys passes over the first
over : (f : ℕ → Keeping → Keeping) (ks : List ℕ) (e : ℕ × Keeping) (es : Keepings) → AllByRecursion (λ k. nat_cmp e.0 k ≡ Less) ks
    → changed_at f ks (e ∷ es) ≡ e ∷ changed_at f ks es
over f [] e es above = refl
over f (k ∷ ks) e es above = rw (turned e.0 k above.0) (over f ks e (put_number k (f k (keeping_in k es)) es) above.1)

-- changed at each key
pub changed_each : (f : ℕ → Keeping → Keeping) (m : Keepings) → IsStrictlySortedBy nat_cmp (keys_of m) →
    changed_at f (keys_of m) m ≡ each f m
unfolding IsStrictlySortedBy
changed_each f [] sorted = refl
changed_each f (e ∷ es) sorted =
    ap changed (same e.0) ∙ over f (keys_of es) (e.0, f e.0 e.1) es sorted.0 ∙ ap (λ rest. (e.0, f e.0 e.1) ∷ rest) (changed_each f es sorted.1)
  where
    value : Ordering → Keeping
    value r = f e.0 (unwrap_or (cond (is_eq r) (Some e.1) (at_number e.0 es)) no_keeping)

    changed : Ordering → Keepings
    changed r = changed_at f (keys_of es) (match_ordering r ((e.0, value r) ∷ e ∷ es) ((e.0, value r) ∷ es) (e ∷ put_number e.0 (value r) es))

-- ---- what is kept after an answer

-- what an answer names are nodes
abbrev ReplySends : Reply → Type 0
ReplySends (Reply.Bound r) = BoundSends r
ReplySends _ = ⊤

sends_reply : (m : Message) → IsSendable m → IfSome (answers m) (λ (e : Asked × Reply). ReplySends e.1)
sends_reply (of.Bind m) s = tt
sends_reply (of.Bound m) s = s
sends_reply (of.Load m) s = tt
sends_reply (of.Loaded m) s = tt
sends_reply (of.Activate m) s = tt
sends_reply (of.Activated m) s = tt
sends_reply (of.RecordMsg m) s = tt
sends_reply (of.Recorded m) s = tt
sends_reply (of.Invoke m) s = tt
sends_reply (of.Invoked m) s = tt
sends_reply (of.Vote m) s = tt
sends_reply (of.Voted m) s = tt
sends_reply (of.Prepare m) s = tt
sends_reply (of.Prepared m) s = tt
sends_reply (of.Confirm m) s = tt
sends_reply (of.Confirmed m) s = tt
sends_reply (of.Told m) s = tt
sends_reply (of.Acked m) s = tt
sends_reply (of.Query m) s = tt
sends_reply (of.Hello m) s = tt

inc_fits : (i : ℕ) (k : Known) (at : At) (first : Option ℕ) → KnownFits k → KeptFits (with_inc i k at first).kept
inc_fits i k at None fits = record { server = fits.server; stores = fits.stores }
inc_fits i k at (Some first) fits = by (first == i)
  where
    by : (b : Bool) → KeptFits (cond b (moves (Some k) at) (finds (Some k) (Changed k.server (two_incs first i)))).kept
    by true = fits
    by false = fits

again_fits : (old k : Known) (at : At) (named : Option ℕ) → KnownFits old → KnownFits k → KeptFits (same_binding old k at named).kept
again_fits old k at None was fits = record { server = was.server; stores = fits.stores }
again_fits old k at (Some i) was fits = inc_fits i (named_again old k) at old.inc (record { server = was.server; stores = fits.stores })

other_fits : (free : Bool) (old k : Known) (at : At) → KnownFits old → KnownFits k → KeptFits (other_binding free old k at).kept
other_fits free old k at was fits = by (free && binding_less old.binding k.binding)
  where
    by : (b : Bool) → KeptFits (cond b (moves (Some k) at) (finds (Some old) (Changed 1 (two_bindings old.binding k.binding)))).kept
    by true = fits
    by false = was

bound_fits : (free : Bool) (k : Known) (at : At) (kept : Option Known) → KnownFits k → KeptFits kept →
    KeptFits (bound_by free k at kept).kept
bound_fits free k at None fits was = fits
bound_fits free k at (Some old) fits was = by (binding_eq old.binding k.binding)
  where
    by : (b : Bool) → KeptFits (cond b (same_binding old k at k.inc) (other_binding free old k at)).kept
    by true = again_fits old k at k.inc was fits
    by false = other_fits free old k at was fits

made_fits : (free : Bool) (k : Known) (kept : Option Known) (at : Option At) → KnownFits k → KeptFits kept →
    KeptFits (made_by free k kept at).kept
made_fits free k kept None fits was = was
made_fits free k kept (Some at) fits was = bound_fits free k at kept fits was

lost_fits : (kept : Option Known) (at : Option At) → KeptFits kept → KeptFits (or_lost kept at).kept
lost_fits kept None was = was
lost_fits kept (Some at) was = was

reply_fits : (free : Bool) (kept : Option Known) (r : BoundReply) → BoundSends r → KeptFits kept → KeptFits (bound_answer free kept r).kept
reply_fits free kept (bound.Live b n i g stores) s was =
    bound_fits free (live_known b n i g stores) (AtInvoke (live_known b n i g stores) i) kept (record { server = s.0; stores = s.1.1 }) was
reply_fits free kept (bound.Make b n g stores) s was =
    made_fits free (made_known b n g stores) kept (load_from (made_known b n g stores) stores) (record { server = s.0; stores = s.1.1 }) was
reply_fits free kept (bound.Write g stores) s was = lost_fits kept (load_from (write_known g stores) stores) was
reply_fits free kept (bound.Conflict holder m) s was = was

activated_fits : (k : Known) (i : ℕ) (kept : Option Known) → KeptFits kept → KeptFits (activated_by k i kept).kept
activated_fits k i None was = tt
activated_fits k i (Some old) was = by (binding_eq old.binding k.binding)
  where
    by : (b : Bool) → KeptFits (cond b (with_inc i old (AtNote k i) old.inc) (moves (Some old) (AtNote k i))).kept
    by true = inc_fits i old (AtNote k i) old.inc was
    by false = was

recorded_fits : (k : Known) (kept : Option Known) → KeptFits kept → KeptFits (recorded_kept k kept)
recorded_fits k None was = tt
recorded_fits k (Some old) was = by (binding_eq old.binding k.binding)
  where
    by : (b : Bool) → KeptFits (cond b (Some (record old { recorded = true })) (Some old))
    by true = record { server = was.server; stores = was.stores }
    by false = was

answered_fits : (free : Bool) (kept : Option Known) (g : Goal) (at : At) (r : Reply) → KeptFits kept → ReplySends r →
    KeptFits (answered free kept g at r).kept
answered_fits free kept g (AtBind avoid) (Reply.Bound r) was s = reply_fits free kept r s was
answered_fits free kept g (AtBind avoid) (Reply.Loaded r) was s = was
answered_fits free kept g (AtBind avoid) (Reply.Activated r) was s = was
answered_fits free kept g (AtBind avoid) (Reply.Noted r) was s = was
answered_fits free kept g (AtBind avoid) (Reply.Invoked r) was s = was
answered_fits free kept g (AtBind avoid) (Reply.Voted r) was s = was
answered_fits free kept g (AtBind avoid) (Reply.Prepared r) was s = was
answered_fits free kept g (AtBind avoid) (Reply.Confirmed r) was s = was
answered_fits free kept g (AtLoad k n rest) (Reply.Bound r) was s = was
answered_fits free kept (Run o) (AtLoad k n rest) (Reply.Loaded (loaded.State st)) was s = was
answered_fits free kept (Include i) (AtLoad k n rest) (Reply.Loaded (loaded.State st)) was s = was
answered_fits free kept g (AtLoad k n rest) (Reply.Loaded (loaded.InDoubt holder)) was s = was
answered_fits free kept g (AtLoad k n rest) (Reply.Activated r) was s = was
answered_fits free kept g (AtLoad k n rest) (Reply.Noted r) was s = was
answered_fits free kept g (AtLoad k n rest) (Reply.Invoked r) was s = was
answered_fits free kept g (AtLoad k n rest) (Reply.Voted r) was s = was
answered_fits free kept g (AtLoad k n rest) (Reply.Prepared r) was s = was
answered_fits free kept g (AtLoad k n rest) (Reply.Confirmed r) was s = was
answered_fits free kept g (AtActivate k st) (Reply.Bound r) was s = was
answered_fits free kept g (AtActivate k st) (Reply.Loaded r) was s = was
answered_fits free kept g (AtActivate k st) (Reply.Activated i) was s = activated_fits k i kept was
answered_fits free kept g (AtActivate k st) (Reply.Noted r) was s = was
answered_fits free kept g (AtActivate k st) (Reply.Invoked r) was s = was
answered_fits free kept g (AtActivate k st) (Reply.Voted r) was s = was
answered_fits free kept g (AtActivate k st) (Reply.Prepared r) was s = was
answered_fits free kept g (AtActivate k st) (Reply.Confirmed r) was s = was
answered_fits free kept g (AtNote k i) (Reply.Bound r) was s = was
answered_fits free kept g (AtNote k i) (Reply.Loaded r) was s = was
answered_fits free kept g (AtNote k i) (Reply.Activated r) was s = was
answered_fits free kept g (AtNote k i) (Reply.Noted recorded.Yes) was s = recorded_fits k kept was
answered_fits free kept g (AtNote k i) (Reply.Noted (recorded.Changed w)) was s = was
answered_fits free kept g (AtNote k i) (Reply.Invoked r) was s = was
answered_fits free kept g (AtNote k i) (Reply.Voted r) was s = was
answered_fits free kept g (AtNote k i) (Reply.Prepared r) was s = was
answered_fits free kept g (AtNote k i) (Reply.Confirmed r) was s = was
answered_fits free kept g (AtInvoke k i) (Reply.Bound r) was s = was
answered_fits free kept g (AtInvoke k i) (Reply.Loaded r) was s = was
answered_fits free kept g (AtInvoke k i) (Reply.Activated r) was s = was
answered_fits free kept g (AtInvoke k i) (Reply.Noted r) was s = was
answered_fits free kept g (AtInvoke k i) (Reply.Invoked (invoked.Answered a)) was s = was
answered_fits free kept g (AtInvoke k i) (Reply.Invoked (invoked.Conflict holder m)) was s = was
answered_fits free kept g (AtInvoke k i) (Reply.Invoked (invoked.Changed w)) was s = was
answered_fits free kept g (AtInvoke k i) (Reply.Voted r) was s = was
answered_fits free kept g (AtInvoke k i) (Reply.Prepared r) was s = was
answered_fits free kept g (AtInvoke k i) (Reply.Confirmed r) was s = was

keeps_fits : (g : Goal) (spoilt : Bool) (kept : Option Known) (k : Keeping) → KeptFits k.kept → KeptFits kept →
    KeptFits ((keeps_after g spoilt kept k).kept)
keeps_fits (Run o) spoilt kept k was fits = fits
keeps_fits (Include s) spoilt kept k was fits = was

pub hears_fits : (free : Bool) (k : Keeping) (s : Steps) (from : ℕ) (m : Message) → KeptFits k.kept → IsSendable m
    → KeptFits ((hears free k s (heard_in from m s)).keeping.kept)
hears_fits free k s from m was sends = by (answers m) (sends_reply m sends)
  where
    on : (r : Reply) → ReplySends r → (b : Bool) → KeptFits ((hears free k s (cond b (Some r) None)).keeping.kept)
    on r fits true = keeps_fits s.goal _ (answered free k.kept s.goal s.at r).kept k was (answered_fits free k.kept s.goal s.at r was fits)
    on r fits false = was

    by : (e : Option (Asked × Reply)) → IfSome e (λ (e : Asked × Reply). ReplySends e.1) →
        KeptFits ((hears free k s (awaited from s e)).keeping.kept)
    by None is = was
    by (Some e) is = on e.1 is (waits_for_call from e.0 e.1 s)

-- what a root notes and keeps after an answer for which the steps wait
pub answered_root : (s : Steps) (from : ℕ) (m : Message) (free : Bool) (old mid : Root) (grant : Option Grant) (keeping : Keepings)
    → grant ≡ granted_in (top_of s.path) s.x (answers m)
    → mid ≡ notes_grant grant old
    → keeping ≡ put_number s.x (hears free (keeping_in s.x mid.keeping) s (heard_in from m s)).keeping mid.keeping
    → IfSome (heard_in from m s) (λ r. record mid {
      keeping =
          keeping;
    } ≡ root_moved s r (answered free ((keeping_of s.x old).kept) s.goal s.at r) old)
answered_root s from m free old mid grant keeping grant_is mid_is keeping_is = by (answers m) grant_is keeping_is
  where
    kept : Option Reply → Root → Root
    kept o n = record n { keeping = put_number s.x (hears free (keeping_in s.x n.keeping) s o).keeping n.keeping }

    noted : (r : Reply) (g : Option Grant) → kept (Some r) (notes_grant g old)
        ≡ with_keeping s.x (keeps_after s.goal (has_changed (answered free ((keeping_of s.x old).kept) s.goal s.at r).step) (answered free ((keeping_of s.x old).kept) s.goal s.at r).kept (keeping_of s.x old)) (notes_grant g old)
    noted r None = refl
    noted r (Some g) = refl

    on : (r : Reply) (b : Bool) → grant ≡ granted_by (top_of s.path) s.x r →
        record mid { keeping = keeping } ≡ kept (cond b (Some r) None) mid
        → IfSome (cond b (Some r) None) (λ r. record mid {
          keeping =
              keeping;
        } ≡ root_moved s r (answered free ((keeping_of s.x old).kept) s.goal s.at r) old)
    on r true is changed =
        changed ∙ ap (kept (Some r)) (mid_is ∙ ap (λ g. notes_grant g old) is) ∙ noted r (granted_by (top_of s.path) s.x r)
    on r false is changed = tt

    by : (e : Option (Asked × Reply)) → grant ≡ granted_in (top_of s.path) s.x e
        → keeping ≡ put_number s.x (hears free (keeping_in s.x mid.keeping) s (awaited from s e)).keeping mid.keeping
        → IfSome (awaited from s e) (λ r. record mid {
          keeping =
              keeping;
        } ≡ root_moved s r (answered free ((keeping_of s.x old).kept) s.goal s.at r) old)
    by None is changed = tt
    by (Some e) is changed = on e.1 (waits_for_call from e.0 e.1 s) is (ap (λ ks. record mid { keeping = ks }) changed)

pub gave_fits : (k : Keeping) (s : Steps) → KeptFits k.kept → KeptFits ((gives_up k s).keeping.kept)
gave_fits k s was = keeps_fits s.goal _ k.kept k was was

pub renewed_fits : (free : Bool) (k : Keeping) → KeptFits k.kept → KeptFits ((renewed free k k.kept).kept)
renewed_fits free k was = by k.kept
  where
    on : (old : Known) (b : Bool) → KeptFits ((if b then given_away k old else k).kept)
    on old true = tt
    on old false = was

    by : (o : Option Known) → KeptFits ((renewed free k o).kept)
    by None = was
    by (Some old) = on old (free && k.spoiled)

-- ---- what is kept after a decided plan

with_fits : (ss stores : List ℕ) → AllByRecursion IsNode ss → AllByRecursion IsNode stores → AllByRecursion IsNode (with_stores ss stores)
with_fits [] stores more all = all
with_fits (s ∷ ss) stores more all = with_fits ss (with_store s stores) more.1 (by (is_listed s stores))
  where
    by : (b : Bool) → AllByRecursion IsNode (if b then stores else stores ++ s ∷ [])
    by true = all
    by false = all_more IsNode stores s all more.0

without_fits : (ss stores : List ℕ) → AllByRecursion IsNode stores → AllByRecursion IsNode (without_stores ss stores)
without_fits [] stores all = all
without_fits (s ∷ ss) stores all = without_fits ss (without_store s stores) (some_pass IsNode (λ node. not (node == s)) stores all)

-- the store of a mark is a node
abbrev IsMark : ℕ × ℕ → Type 0
IsMark m = IsNode m.1

joined_marks : (x : ℕ) (stores : List ℕ) → AllByRecursion IsNode stores →
    AllByRecursion IsMark (map {A = ℕ} {B = ℕ × ℕ} (λ s. (x, s)) stores)
joined_marks x [] all = tt
joined_marks x (s ∷ stores) all = (all.0, joined_marks x stores all.1)

marks_append : (ms ns : List (ℕ × ℕ)) → AllByRecursion IsMark ms → AllByRecursion IsMark ns → AllByRecursion IsMark (ms ++ ns)
marks_append [] ns all more = more
marks_append (m ∷ ms) ns all more = (all.0, marks_append ms ns all.1 more)

included_fit : (p : Plan) (us : List Used) → AllByRecursion UsedFits us → AllByRecursion IsMark (flat_map (joins_left p) us)
included_fit p [] all = tt
included_fit p (u ∷ us) all =
    marks_append (joins_left p u) (flat_map (joins_left p) us)
    (joined_marks u.x (filter (λ s. not (is_marked u.x s p)) u.joins) (some_pass IsNode (λ s. not (is_marked u.x s p)) u.joins all.0.joins)) (included_fit p us all.1)

marked_fit : (x : ℕ) (marks : List (ℕ × ℕ)) → AllByRecursion IsMark marks → AllByRecursion IsNode (marked x marks)
marked_fit x [] all = tt
marked_fit x (m ∷ marks) all = by (m.0 == x) (marked_fit x marks all.1)
  where
    rest : List (ℕ × ℕ)
    rest = filter (λ (m : ℕ × ℕ). m.0 == x) marks

    by : (b : Bool) → AllByRecursion IsNode (marked x marks) →
        AllByRecursion IsNode (map (λ (m : ℕ × ℕ). m.1) (if b then m ∷ rest else rest))
    by true more = (all.0, more)
    by false more = more

pub changed_fits : (p : Plan) (x : ℕ) (k : Keeping) → PlanFits p → KeptFits k.kept → KeptFits ((keeping_after p x k).kept)
changed_fits p x k fits was = by k.kept was
  where
    by : (o : Option Known) → KeptFits o → KeptFits ((keeping_after p x (record k { kept = o })).kept)
    by None is = tt
    by (Some old) is = record {
      server = is.server;
      stores = with_fits (marked x (included_of p)) (without_stores (marked x p.excluded) old.stores) (marked_fit x (included_of p) (included_fit p p.used fits.used))
          (without_fits (marked x p.excluded) old.stores is.stores);
    }

-- ---- includes

later_is : (x : ℕ) (s t : ObjectState) → HasNumber x s → HasNumber x t → HasNumber x (later_state s t)
later_is x s t one other = by _
  where
    by : (b : Bool) → HasNumber x (if b then t else s)
    by true = other
    by false = one

-- one more include, or one again
pub joins_more : (j : Joined) (joined : List Joined) → AreJoins joined → JoinFits j → AreJoins (joined_with j joined)
joins_more j [] all is = (is, tt)
joins_more j (i ∷ joined) all is = by (same_join j i) refl (joins_more j joined all.1 is)
  where
    of_same : same_join j i ≡ true → i.x ≡ j.x
    of_same same = grind (arith, nat_tests, same)

    by : (b : Bool) → same_join j i ≡ b → AreJoins (joined_with j joined)
        → AreJoins (if b then record i { loaded = later_state i.loaded j.loaded } ∷ joined else i ∷ joined_with j joined)
    by true same rest = (record { node = all.0.node; own = later_is i.x i.loaded j.loaded all.0.own (is.own ∙ sym (of_same same)) }, all.1)
    by false same rest = (all.0, rest)

-- the includes of one object
on_object : (x : ℕ) (top : Uid) (c : Coord) (joined : List Joined) → AreJoins joined
    → AllByRecursion (λ (j : Joined). HasNumber x j.loaded × IsNode j.store) (joins_on x top (of_joins joined) c)
on_object x top c [] all = tt
on_object x top c (j ∷ joined) all = by (j.x == x) refl (survives top j.path c) (on_object x top c joined all.1)
  where
    is_of : (j.x == x) ≡ true → j.x ≡ x
    is_of same = grind (arith, nat_tests, same)

    by : (b : Bool) → (j.x == x) ≡ b → (t : Bool) →
        AllByRecursion (λ (j : Joined). HasNumber x j.loaded × IsNode j.store) (joins_on x top (of_joins joined) c)
        → AllByRecursion (λ (j : Joined). HasNumber x j.loaded × IsNode j.store) (if b && t then j ∷ joins_on x top (of_joins joined) c else joins_on x top (of_joins joined) c)
    by true same true rest = ((all.0.own ∙ is_of same, all.0.node), rest)
    by true same false rest = rest
    by false same t rest = rest

latest_from : (x : ℕ) (found : Option ObjectState) (joined : List Joined) → IfSome found (HasNumber x)
    → AllByRecursion (λ (j : Joined). HasNumber x j.loaded × IsNode j.store) joined → IfSome (latest_of found joined) (HasNumber x)
latest_from x found [] is all = is
latest_from x None (j ∷ joined) is all = latest_from x (Some j.loaded) joined all.0.0 all.1
latest_from x (Some s) (j ∷ joined) is all = latest_from x (Some (later_state s j.loaded)) joined (later_is x s j.loaded is all.0.0) all.1

pub latest_is : (x : ℕ) (top : Uid) (c : Coord) (joined : List Joined) → AreJoins joined →
    IfSome (latest_of None (joins_on x top (of_joins joined) c)) (HasNumber x)
latest_is x top c joined all = latest_from x None (joins_on x top (of_joins joined) c) tt (on_object x top c joined all)

stores_of : (x : ℕ) (joined : List Joined) → AllByRecursion (λ (j : Joined). HasNumber x j.loaded × IsNode j.store) joined →
    AllByRecursion IsNode (map (λ (j : Joined). j.store) joined)
stores_of x [] all = tt
stores_of x (j ∷ joined) all = (all.0.1, stores_of x joined all.1)

pub stores_are : (x : ℕ) (top : Uid) (c : Coord) (joined : List Joined) → AreJoins joined
    → AllByRecursion IsNode (number_set (map (λ (j : Joined). j.store) (joins_on x top (of_joins joined) c)))
stores_are x top c joined all =
    all_set IsNode (map (λ (j : Joined). j.store) (joins_on x top (of_joins joined) c)) (stores_of x (joins_on x top (of_joins joined) c) (on_object x top c joined all))

-- of a loaded state and a kept one
pub kept_is : (x : ℕ) (loaded kept : Option ObjectState) → IfSome loaded (HasNumber x) → IfSome kept (HasNumber x) →
    IfSome (or_kept_state loaded kept) (HasNumber x)
kept_is x None kept is was = tt
kept_is x (Some s) None is was = is
kept_is x (Some s) (Some t) is was = later_is x s t is was
