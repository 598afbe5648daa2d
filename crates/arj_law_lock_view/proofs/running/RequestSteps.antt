-- What a coordinator asks is shown, in the whole world: calls and includes begin, are answered, and are given up.
use Rattle.arj_law_parts.proofs.Words
use Words.{◌≡◌, ◌<◌, ◌∙◌, ℕ, List, [], true, false, Some, refl, sym, ap, subst, in_from, Ask, End, Head, Op, Uid, request, At, AtActivate}
use Words.{AtBind, AtInvoke, AtLoad, AtNote, Goal, Include as IncludeStore, Run, Steps, next_ask, next_node, Calling, Coord, Doing}
use Words.{doing_of, is_call, Send, binding_number, ends_of, root_of, request_reads_back}
use Rattle.arj_law_lock_view.proofs.Terms
use Terms.{State, ShowsAsk, SeesWhole, is_early, HaveEnded, post_to, View, Case, IsSeenIn, Spot, view_in, world_at, IsSendShown, KnowsAsks}
use Terms.{KnowsCoord, IsAskedSeen, IsRequestSeen}
use Rattle.arj_law_lock_view.proofs.{running.ToldSteps.telling, view.AskSteps.requests_are_shown, view.ListedSteps.listed_have_ended}

-- ---- the request of a call that waits

module _ (c : Case) (s : Spot) (is_seen : IsSeenIn c (world_at s)) (C : Coord) (knows : KnowsCoord c s C) (asked : KnowsAsks c C)
    (T : State) (coord : SeesWhole (let f = c.fixed in f.act) (let f = c.fixed in f.code) c.x C T)
    (same_naming : T.naming ≡ (let S = c.state in S.naming))
    (u : Uid) (d : Doing) (w : Steps) (works : doing_of u C ≡ Some d) (calling : d.now ≡ Calling w) where
  abbrev V : View
  V = view_in c (next_node w)

  abbrev h : Head
  h = record { path = w.path; req = w.req }

  abbrev ends : List (Uid × End)
  ends = ends_of (root_of w.path) C.tree

  -- who goes past its Load on the object calls
  calls_it : w.x ≡ c.x → is_early w.at ≡ false → (o : Op) × (w.goal ≡ Run o)
  calls_it about late = by w.goal refl (let k = coord.coord in k.plain u d w works calling about late)
    where
      by : (g : Goal) → w.goal ≡ g → is_call w.goal ≡ true → (o : Op) × (w.goal ≡ Run o)
      by (Run o) is k = (o, is)
      by (IncludeStore store) is k = absurd (cc (sym (ap is_call is) ∙ k))

  shows : (a : At) → w.at ≡ a → w.x ≡ c.x → is_early a ≡ false →
      ShowsAsk (let f = c.fixed in f.act) (let f = c.fixed in f.code) (post_to V h) T (next_ask ends w)
  shows a is about late = let g = calls_it about (ap is_early is ∙ late) in
      requests_are_shown (let f = c.fixed in f.act) (let f = c.fixed in f.code) c.x C u d w g.0 ends T coord.coord works calling about g.1

  ended : HaveEnded V ends T
  ended v e there = listed_have_ended (view_in c s.node) C ends T (telling c s is_seen C knows T coord) (let k = knows.sure in
      k.lists (root_of w.path)) (knows.unserial (root_of w.path)) v e there

  no_ends : HaveEnded V [] T
  no_ends v e there = absurd (in_from {X = Uid × End} (v, e) [] there)

  request_seen : (a : At) → w.at ≡ a → IsRequestSeen V h (next_ask ends w) T
  request_seen (AtBind avoid) is = subst (λ (q : Ask). IsRequestSeen V h q T) (sym (λ i. next_ask ends (record w { at = is i }))) (record {
    says = λ none. absurd none;
    names = λ about.
        subst (λ (n : ℕ). binding_number avoid < n) (ap (λ n. n.bound) (sym same_naming)) (asked.avoids u d w avoid works calling is about);
    ended = no_ends;
  })
  request_seen (AtLoad k n rest) is = subst (λ (q : Ask). IsRequestSeen V h q T) (sym (λ i. next_ask ends (record w { at = is i })))
      (record { says = λ none. absurd none; names = tt; ended = no_ends })
  request_seen (AtActivate k o) is =
      subst (λ (q : Ask). IsRequestSeen V h q T) (sym (λ i. next_ask ends (record w { at = is i }))) (record {
        says = λ about. subst (λ (q : Ask). ShowsAsk (let f = c.fixed in f.act) (let f = c.fixed in f.code) (post_to V h) T q) (λ i.
            next_ask ends (record w { at = is i }))
            (shows (AtActivate k o) is (sym (asked.states u d w k o works calling is) ∙ about) refl);
        names = tt;
        ended = no_ends;
      })
  request_seen (AtNote k i) is = subst (λ (q : Ask). IsRequestSeen V h q T) (sym (λ j. next_ask ends (record w { at = is j }))) (record {
    says = λ none. absurd none;
    names = λ about. subst (λ (q : Ask). ShowsAsk (let f = c.fixed in f.act) (let f = c.fixed in f.code) (post_to V h) T q)
        (λ j. next_ask ends (record w { at = is j })) (shows (AtNote k i) is about refl);
    ended = no_ends;
  })
  request_seen (AtInvoke k i) is = subst (λ (q : Ask). IsRequestSeen V h q T) (sym (λ j. next_ask ends (record w { at = is j }))) (record {
    says = λ about. subst (λ (q : Ask). ShowsAsk (let f = c.fixed in f.act) (let f = c.fixed in f.code) (post_to V h) T q)
        (λ j. next_ask ends (record w { at = is j })) (shows (AtInvoke k i) is about refl);
    names = tt;
    ended = ended;
  })

  pub request_shown : IsSendShown c s T (Send (next_node w) (request h (next_ask ends w)))
  request_shown wide within = subst (IsAskedSeen V wide (record { from = s.node; to = next_node w; message = request h (next_ask ends w) })
      T) (sym (request_reads_back h (next_ask ends w))) (request_seen w.at refl)
