-- `packed::fits::head_fits` meets its contract: each part by its own test.
use Rattle.packed.proofs.fits.head_fits.Goals as goal

pub returns : goal.returns
returns c = (
  (λ e.
      let n = c.numbers_fit.ensures.0 e in
      record {
        filter = c.filter_fits.ensures.0 c.if-not-filter_fits.false;
        loss = n.loss;
        advance = n.advance;
        last = n.last;
        waiting = c.waiting_fits.ensures.0 c.if-not-waiting_fits.false;
        pluck = c.pluck_fits.ensures.0 c.if-not-pluck_fits.false;
        at = n.at;
      }),
  (λ f. c.numbers_fit.ensures.1 (record { loss = f.loss; advance = f.advance; last = f.last; at = f.at })),
)
