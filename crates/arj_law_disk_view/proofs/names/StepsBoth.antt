-- Both halves where a walk begins, and at steps that aren't walks.
use Rattle.arj_law_parts.proofs.Words.{false, [], Some, refl}
use Rattle.arj_law_disk_view.proofs.Terms.{said, halted}
use Rattle.arj_law_disk_view.proofs.names.Pairing.{naming_on, still, still_only, stopped_both, unfollowed}
use Rattle.arj_law_disk_view.proofs.view.Follows.{walks_are_followed}
use Rattle.arj_law_disk_view.specs.names.Both.{LabelsKeepBoth, LinesKeepBoth, StopsKeepBoth, WalksStart}

pub walks_start : WalksStart
walks_start x tops f A M both = walks_are_followed x tops (Some (record { from = A.world; noted = f })) A.world M
    (record { effects = []; allowed = tt; only = tt; here = refl }) both.disks

pub lines_keep_both : LinesKeepBoth
lines_keep_both x tops e bs A M unwalked both (W, s) =
    let st = still A W both.named s.along in (
      record { world = W; names = A.names },
      still_only A W st,
      record {
        named = st.named;
        disks = unfollowed x tops unwalked (λ n. false) A.world W (said e bs M) s;
        names = record {
          inc = both.names.inc;
          memory =
              λ n t o is live naming. naming_on x tops o A.world.disk W.disk A.names st.later.root (both.names.memory n t o is live naming);
        };
      },
    )

pub stops_keep_both : StopsKeepBoth
stops_keep_both x tops e k d live A M unwalked both (W, s) =
    let st = still A W both.named s.along in (
      record { world = W; names = A.names },
      still_only A W st,
      stopped_both x tops k d live A M both e (record { world = W; names = A.names }) M d st.named refl (unfollowed x tops unwalked
          (λ n. false) A.world W (halted e k d M) s) refl refl (λ other o. naming_on x tops o A.world.disk W.disk A.names st.later.root),
    )

-- no place looks at labels
pub labels_keep_both : LabelsKeepBoth
labels_keep_both x tops l g A M both = let s = both.disks in record {
  named = both.named;
  disks = record {
    whole = s.whole;
    along = s.along;
    fixed = s.fixed;
    kinds = s.kinds;
    stores = s.stores;
    entry = s.entry;
    records = s.records;
    coords = s.coords;
    notes = s.notes;
    downs = s.downs;
    confirmed = s.confirmed;
    posts = s.posts;
  };
  names = record { inc = both.names.inc; memory = both.names.memory };
}
