use Rattle.std.proofs.Common.{◌≡◌, ◌≢◌, ◌∙◌, inl, refl, sym, ap, subst, drop, rules}
use Rattle.feed_device.specs.Calls.{HasAnswered, AnsweredAtLeastOnce}
use Rattle.feed_live.specs.declared.source.Reach.TheVariants.{Away, Connects, Asks, Reads}
use Rattle.feed_live.proofs.TimesLemmas.{heeds_then, heeds_same}
use Rattle.feed_live.proofs.CallingLemmas.{leaves_after, leaves_then, looked_may, read_may, wrote_may}
use Rattle.feed_live.proofs.source.Source.go_on.Goals as goal

pub returns-then-not-is_open-clause-follows : goal.returns-then-not-is_open-clause-follows
returns-then-not-is_open-clause-follows g c = λ limits log servers contest sockets follows. c.is_open.ensures.follows c.args.screens.now limits log servers contest sockets follows

pub returns-then-not-is_open-clause-heeds : goal.returns-then-not-is_open-clause-heeds
returns-then-not-is_open-clause-heeds g c = heeds_then c.is_open.ensures.heeds (heeds_same _ (record { set = refl; times = refl; rests = λ rest away. refl }))

pub returns-then-eq-clause-follows : goal.returns-then-eq-clause-follows
returns-then-eq-clause-follows g c =
    let reads : c.ask.new.self.reach ≡ Reads = search rules in
    λ limits log servers contest sockets follows.
    c.read_some.ensures.follows reads limits log servers contest sockets (c.ask.ensures.follows c.args.screens.now limits log servers contest sockets (c.is_open.ensures.follows c.args.screens.now limits log servers contest sockets follows))

pub returns-then-eq-clause-heeds : goal.returns-then-eq-clause-heeds
returns-then-eq-clause-heeds g c = heeds_then c.read_some.ensures.heeds (heeds_then c.ask.ensures.heeds (heeds_then c.is_open.ensures.heeds (heeds_same _ (record { set = refl; times = refl; rests = λ rest away. refl }))))

pub returns-then-eq-clause-calls : goal.returns-then-eq-clause-calls
returns-then-eq-clause-calls g c =
    let looked = c.read_some.ensures.looks ∙ c.ask.ensures.looks in
    record {
      looks = λ since is.
          let at = c.is_open.ensures.looks since is in
          record {
            answer = at.0;
            looks = subst (λ k. HasAnswered at.0 (g.L.Link.calls c.args.link.now).looked k) (sym looked) at.1.looked;
            asks = λ opened some.
                let stands = (at.2.opens opened).1 in
                let written = c.ask.ensures.asks 0 (ap (λ s. s.reach) stands) (λ none. some (sym (ap (λ s. s.request.items) stands) ∙ none)) in
                subst (λ k. AnsweredAtLeastOnce (g.L.Link.calls c.args.link.now).written k) (sym c.read_some.ensures.written)
                (subst (λ k. AnsweredAtLeastOnce k (g.L.Link.calls c.ask.new.link).written) at.1.written written);
          };
      asks = λ count is some.
          let opened = c.is_open.ensures.rests (λ since at. let wrong : Asks count ≡ Connects since = sym is ∙ at in absurd (cc)) in
          let written = c.ask.ensures.asks count (ap (λ s. s.reach) opened.1 ∙ is) (λ none. some (sym (ap (λ s. drop count s.request.items) opened.1) ∙ none)) in
          subst (λ k. AnsweredAtLeastOnce (g.L.Link.calls c.args.link.now).written k) (sym c.read_some.ensures.written)
          (subst (λ k. AnsweredAtLeastOnce (g.L.Link.calls k).written (g.L.Link.calls c.ask.new.link).written) opened.2 written);
      reads = λ may.
          let opened = c.is_open.ensures.rests (λ since at. let wrong : Reads ≡ Connects since = sym may.reads ∙ at in absurd (cc)) in
          let asked = c.ask.ensures.rests (λ count at. let wrong : Reads ≡ Asks count = sym may.reads ∙ sym (ap (λ s. s.reach) opened.1) ∙ at in absurd (cc)) in
          let same = asked.0 ∙ opened.1 in
          subst (λ k. AnsweredAtLeastOnce (g.L.Link.calls k).read (g.L.Link.calls c.read_some.new.link).read) (asked.1 ∙ opened.2)
          (c.read_some.ensures.reads (record { reads = ap (λ s. s.reach) same ∙ may.reads; rest = ap (λ s. s.rest.items) same ∙ may.rest; said = may.said }));
    }

pub returns-else-eq-clause-follows : goal.returns-else-eq-clause-follows
returns-else-eq-clause-follows g c =
    λ limits log servers contest sockets follows. c.ask.ensures.follows c.args.screens.now limits log servers contest sockets (c.is_open.ensures.follows c.args.screens.now limits log servers contest sockets follows)

pub returns-else-eq-clause-heeds : goal.returns-else-eq-clause-heeds
returns-else-eq-clause-heeds g c = heeds_then c.ask.ensures.heeds (heeds_then c.is_open.ensures.heeds (heeds_same _ (record { set = refl; times = refl; rests = λ rest away. refl })))

pub returns-else-eq-clause-calls : goal.returns-else-eq-clause-calls
returns-else-eq-clause-calls g c =
    let others : c.ask.new.self.reach ≢ Reads = search rules in
    record {
      looks = λ since is.
          let at = c.is_open.ensures.looks since is in
          record {
            answer = at.0;
            looks = subst (λ k. HasAnswered at.0 (g.L.Link.calls c.args.link.now).looked k) (sym c.ask.ensures.looks) at.1.looked;
            asks = λ opened some.
                let stands = (at.2.opens opened).1 in
                let written = c.ask.ensures.asks 0 (ap (λ s. s.reach) stands) (λ none. some (sym (ap (λ s. s.request.items) stands) ∙ none)) in
                subst (λ k. AnsweredAtLeastOnce k (g.L.Link.calls c.ask.new.link).written) at.1.written written;
          };
      asks = λ count is some.
          let opened = c.is_open.ensures.rests (λ since at. let wrong : Asks count ≡ Connects since = sym is ∙ at in absurd (cc)) in
          let written = c.ask.ensures.asks count (ap (λ s. s.reach) opened.1 ∙ is) (λ none. some (sym (ap (λ s. drop count s.request.items) opened.1) ∙ none)) in
          subst (λ k. AnsweredAtLeastOnce (g.L.Link.calls k).written (g.L.Link.calls c.ask.new.link).written) opened.2 written;
      reads = λ may.
          let opened = c.is_open.ensures.rests (λ since at. let wrong : Reads ≡ Connects since = sym may.reads ∙ at in absurd (cc)) in
          let asked = c.ask.ensures.rests (λ count at. let wrong : Reads ≡ Asks count = sym may.reads ∙ sym (ap (λ s. s.reach) opened.1) ∙ at in absurd (cc)) in
          absurd (others (ap (λ s. s.reach) (asked.0 ∙ opened.1) ∙ may.reads));
    }

pub returns-then-not-is_open-clause-leaves : goal.returns-then-not-is_open-clause-leaves
returns-then-not-is_open-clause-leaves g c = leaves_then c.args.self.now c.args.self.now c.is_open.new.self (λ gone. gone)
    (looked_may c.args.self.now (g.L.Link.calls c.args.link.now) (g.L.Link.calls c.is_open.new.link) (g.L.Link.calls c.is_open.new.link) refl) (λ away. inl away) c.is_open.ensures.leaves

pub returns-then-eq-clause-leaves : goal.returns-then-eq-clause-leaves
returns-then-eq-clause-leaves g c =
    let reads : c.ask.new.self.reach ≡ Reads = search rules in
    let there : c.ask.new.self.reach ≢ Away = λ away. let wrong : Reads ≡ Away = sym reads ∙ away in absurd (cc) in
    let stood : c.is_open.new.self.reach ≢ Away = λ away. there (c.ask.ensures.heeds.away away) in
    leaves_after c.args.self.now c.ask.new.self c.read_some.new.self there
    (read_may c.args.self.now c.ask.new.self (g.L.Link.calls c.args.link.now) (g.L.Link.calls c.ask.new.link) (g.L.Link.calls c.read_some.new.link) (c.ask.ensures.nothing_read.read ∙ c.is_open.ensures.nothing_read.read) (c.ask.ensures.nothing_read.kept there ∙ c.is_open.ensures.nothing_read.kept stood))
    c.read_some.ensures.leaves

pub returns-else-eq-clause-leaves : goal.returns-else-eq-clause-leaves
returns-else-eq-clause-leaves g c =
    leaves_then c.args.self.now c.is_open.new.self c.ask.new.self
    (looked_may c.args.self.now (g.L.Link.calls c.args.link.now) (g.L.Link.calls c.is_open.new.link) (g.L.Link.calls c.ask.new.link) c.ask.ensures.looks)
    (wrote_may c.args.self.now (g.L.Link.calls c.args.link.now) (g.L.Link.calls c.is_open.new.link) (g.L.Link.calls c.ask.new.link) (g.L.Link.calls c.ask.new.link) c.is_open.ensures.written refl)
    c.is_open.ensures.leaves c.ask.ensures.leaves
