-- What coordinators know of Records, and what was sent of them, is kept by all handlers.
use Rattle.arj_law_parts.proofs.Words
use Words.{◌≡◌, ◌∙◌, ℕ, zero, suc, Bool, true, false, cond, List, [], ◌∷◌, Some, None, refl, ap, inl, inr, ⊎_elim, Ask, Head, Uid, asks}
use Words.{is_on, uids_of, Coord, Doing, doing_of, new_coord, Intent, actor, top_of, again_all, heard, acked, acts, at_place, is_own}
use Words.{new_tree, Post}
use Words.ask
use Rattle.arj_law_lock_view.proofs.Terms
use Terms.{paths_of, begun_tree, on_own, good_acts, good_acked, good_again, good_heard, well_acked, well_acts, well_again, well_heard}
use Terms.{AreFitting, SentAreKnown, AreRecorded, KnowsRecords, KnowsSent, Tests}
use Rattle.arj_law_lock_view.proofs.facts.{CoordRuns.IsKeptBy, CoordRuns.Sender, CoordRuns.coords_keep, Requests.requests_kept}
use Rattle.arj_law_lock_view.proofs.records.{Sends.all_more, Sends.records_more, Sends.sent_more, Tops.top_on_path, Whole.records_acked}
use Rattle.arj_law_lock_view.proofs.records.{Whole.records_acts, Whole.records_again, Whole.records_begin, Whole.records_heard}
use Rattle.arj_law_lock_view.proofs.records.{Whole.sent_begin, Whole.sent_on}
use Rattle.arj_law_lock_view.specs.records.Runs.{HandlersSettleRecords, KnowsOfRecords}
use Rattle.arj_law_parts.specs.moves.Seen.{In}

abbrev Q : Sender → Coord → Type 0
Q s c = KnowsOfRecords s.sent s.node c

-- what another node sends isn't of this one's
sent_apart : (sent : List Post) (k : ℕ) (c : Coord) (p : Post) → (p.from ≡ k → ⊥) → KnowsSent sent k c → KnowsSent (p ∷ sent) k c
sent_apart sent k c p other knows = record {
  node = knows.node;
  rooted = λ q h x b i g there from is own.
      ⊎_elim (λ same. absurd (other (ap (λ (z : Post). z.from) same ∙ from))) (λ old. knows.rooted q h x b i g old from is own) there;
  settled = λ q h grants ex inc there from is own. ⊎_elim (λ same. absurd (other (ap (λ (z : Post). z.from) same ∙ from)))
      (λ old. knows.settled q h grants ex inc old from is own) there;
}

records_apart : (T : Tests) (sent : List Post) (k : ℕ) (c : Coord) (p : Post) → (p.from ≡ k → ⊥) → c.tree.node ≡ k →
    KnowsRecords T sent k c → KnowsRecords T (p ∷ sent) k c
records_apart T sent k c p other node knows = record {
  kept = record {
    keeps = knows.kept.keeps;
    said = knows.kept.said;
    joined = knows.kept.joined;
    states = knows.kept.states;
    steps = knows.kept.steps;
    records = λ q h x b i g there from is own. ⊎_elim (λ same. absurd (other (ap (λ (z : Post). z.from) same ∙ from ∙ node)))
        (λ old. knows.kept.records q h x b i g old from is own) there;
  };
  plans = λ u d m found now. let plan = knows.plans u d m found now in record {
    used = λ w n i on. ⊎_elim (λ asked. inl asked) (λ (rec : AreRecorded T sent k u w.x). inr (λ q h b j g there from is of. ⊎_elim
        (λ same. absurd (other (ap (λ (z : Post). z.from) same ∙ from))) (λ old. rec q h b j g old from is of) there)) (plan.used w n i on);
    loaded = plan.loaded;
    marks = plan.marks;
  };
}

less : (T : Tests) (p : Post) (sent : List Post) → AreFitting T (p ∷ sent) → AreFitting T sent
less T p sent fit = record { zero = fit.zero; down = fit.down; answered = fit.answered.1 }

-- a new coordinator
no_doing : (node inc : ℕ) {P : Type 0} (u : Uid) (d : Doing) → doing_of u (new_coord node inc) ≡ Some d → P
no_doing node inc {P} u d is = by (is_own u (let c = new_coord node inc in c.tree)) u.num is
  where
    by : (x : Bool) (j : ℕ) → cond x (at_place j []) None ≡ Some d → P
    by true zero e = absurd (cc e)
    by true (suc j) e = absurd (cc e)
    by false j e = absurd (cc e)

module _ (s : Sender) (inc : ℕ) (telling : List (Uid × Intent)) (fresh : (p : Post) (h : Head) (a : Ask) → In p s.sent →
    asks p.message ≡ Some (h, a) → (u : Uid) → is_on (uids_of h.path) u ≡ true → is_own u (new_tree s.node inc) ≡ true → ⊥) where
  abbrev v : Coord
  v = record (new_coord s.node inc) { telling = telling }

  new_sent : KnowsSent s.sent s.node v
  new_sent = record {
    node = refl;
    rooted = λ p h x b i g there from is own. absurd (fresh p h (ask.Record x b i g) there is (top_of h.path) (top_on_path h.path) own);
    settled =
        λ p h grants ex incl there from is own. absurd (fresh p h (ask.Confirm grants ex incl) there is (actor h.path) (on_own h.path) own);
  }

  new_records : (T : Tests) → AreFitting T s.sent → KnowsRecords T s.sent s.node v
  new_records T fit = record {
    kept = record {
      keeps = λ r x. record { avoid = fit.zero; kept = λ z is. absurd (cc is) };
      said = λ r z i. absurd i;
      joined = λ r j i. absurd i;
      states = λ r x st is. absurd (cc is);
      steps = λ u d z found now. no_doing s.node inc u d found;
      records = λ p h x b i g there from is own. absurd (fresh p h (ask.Record x b i g) there is (top_of h.path) (top_on_path h.path) own);
    };
    plans = λ u d m found now. no_doing s.node inc u d found;
  }

pub coords_kept : IsKeptBy SentAreKnown Q
coords_kept = record {
  none = record {
    senders = λ p h a there. absurd there;
    tops = λ p h grants ex incl there. absurd there;
    first = tt;
    claims = λ T fit. (λ p h a there. absurd there, λ top grants ex inc x b g conf. absurd conf.posted);
  };
  new = λ s inc telling fresh. record {
    requests = requests_kept.new s inc telling fresh;
    own = new_sent s inc telling fresh;
    records = new_records s inc telling fresh;
  };
  apart = λ s c p other knows. record {
    requests = requests_kept.apart s c p other knows.requests;
    own = sent_apart s.sent s.node c p other knows.own;
    records = λ T fit. records_apart T s.sent s.node c p other (let k = knows.own in k.node) (knows.records T (less T p s.sent fit));
  };
  sends = λ s c to m stands so all knows.
      let acts = stands.0 in (
        all_more acts stands.1 s.node s.sent c stands.2 knows.own to m so all knows.records,
        record {
          requests = (requests_kept.sends s c to m stands so tt knows.requests).1;
          own = sent_more acts stands.1 s.node s.sent c stands.2 knows.own to m so all knows.records;
          records = λ T fit. records_more acts stands.1 s.node s.sent c stands.2 knows.own to m so all knows.records T fit;
        },
      );
  hears = λ s c place from a r intents posted fits meant knows.
      let e = (heard from a r intents c).part in
      record {
        requests = requests_kept.hears s c place from a r intents posted fits meant knows.requests;
        own = sent_on place.actions (paths_of place.actions) s.sent s.node c e place.good (good_heard place.actions (paths_of place.actions)
            (begun_tree place.actions place.begun) from a r intents c place.good) (well_heard place.actions (paths_of place.actions)
            (begun_tree place.actions place.begun) from a r intents c place.good).0 knows.own;
        records = λ T fit. records_heard T s.sent s.node c place fit knows.own (knows.records T fit) knows.requests from a r intents
            posted.0 posted.1 posted.2 fits meant;
      };
  acks = λ s c place from u intents knows.
      let e = (acked from u intents c).part in
      record {
        requests = requests_kept.acks s c place from u intents knows.requests;
        own = sent_on place.actions (paths_of place.actions) s.sent s.node c e place.good
            (good_acked place.actions (paths_of place.actions) (begun_tree place.actions place.begun) from u intents c place.good)
            (well_acked place.actions (paths_of place.actions) (begun_tree place.actions place.begun) from u intents c).0 knows.own;
        records = λ T fit. records_acked T s.sent s.node c place fit knows.own (knows.records T fit) from u intents;
      };
  does = λ s c place intents hd i free other knows.
      let e = (acts i intents c).part in
      record {
        requests = requests_kept.does s c place intents hd i free other knows.requests;
        own = sent_on place.actions (paths_of place.actions) s.sent s.node c e place.good (good_acts place.actions (paths_of place.actions)
            (begun_tree place.actions place.begun) intents c place.good hd i free other) (well_acts place.actions (paths_of place.actions)
            (begun_tree place.actions place.begun) intents c place.good (let f = place.faithful in f.works) hd i free other).0 knows.own;
        records = λ T fit. records_acts T s.sent s.node c place fit knows.own (knows.records T fit) intents hd i free other;
      };
  begins = λ s c place l how parent knows. record {
    requests = requests_kept.begins s c place l how parent knows.requests;
    own = sent_begin s.sent s.node l how parent c knows.own;
    records = λ T fit. records_begin T s.sent s.node l how parent c (knows.records T fit);
  };
  asks = λ s c place knows.
      let e = (again_all c.doings c).part in
      record {
        requests = requests_kept.asks s c place knows.requests;
        own = sent_on place.actions (paths_of place.actions) s.sent s.node c e place.good
            (good_again place.actions (paths_of place.actions) (begun_tree place.actions place.begun) c.doings c place.good)
            (well_again place.actions (paths_of place.actions) (begun_tree place.actions place.begun) c place.good).0 knows.own;
        records = λ T fit. records_again T s.sent s.node c place fit knows.own (knows.records T fit);
      };
}

pub records_settle : HandlersSettleRecords
records_settle hd = coords_keep SentAreKnown Q coords_kept hd
