use Rattle.arj_law.proofs.Terms.{refl}
use Rattle.arj_law.proofs.joined.joined_samples_end_so.Goals as goal

pub returns-clause-adds : goal.returns-clause-adds
returns-clause-adds c = record {
  apart = record { labels = (tt, (tt, ((refl, tt), ((refl, tt), ((refl, tt), tt))))); found = tt; past = tt };
  called = (refl, tt);
  serial = (refl, (refl, tt));
  state_is = refl;
  state_from = refl;
  entry_is = refl;
  entry_goes = refl;
}

pub returns-clause-includes : goal.returns-clause-includes
returns-clause-includes c = record {
  apart = record { labels = (tt, (tt, (tt, (tt, ((refl, tt), ((refl, tt), ((refl, tt), tt))))))); found = tt; past = tt };
  called = tt;
  serial = (refl, tt);
  state_is = refl;
  state_from = refl;
  entry_is = refl;
  entry_goes = refl;
}

pub returns-clause-nested : goal.returns-clause-nested
returns-clause-nested c = record {
  apart = record {
    labels = (
      tt,
      (tt, ((refl, tt), ((refl, tt), ((refl, tt), (tt, ((refl, tt), ((refl, tt), ((refl, tt), ((refl, tt), ((refl, tt), tt)))))))))),
    );
    found = tt;
    past = tt;
  };
  called = (refl, (refl, tt));
  serial = (refl, (refl, (refl, (refl, tt))));
  state_is = refl;
  state_from = refl;
  entry_is = refl;
  entry_goes = refl;
}
