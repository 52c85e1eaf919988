-- The codes of what a world has, which the models need.
use Rattle.std.specs.Prelude.{refl, ℕ, Bool, List, Option}
use Rattle.std.specs.Coded.{Coded, code_by, coded×, coded_list, coded_option, coded_ℕ, coded_bool}
use Rattle.feed_settings.specs.contracts.framing.Framing as framing
use Rattle.feed_settings.specs.declared.framing.Framing.{Framing}
use Rattle.feed_tables.specs.Codes.{text_code}
use Rattle.feed_follow.specs.Codes.{follower_code as reader_code}
use Rattle.feed_follow.specs.Follower.{FollowerState}
use Rattle.feed_node.specs.declared.commit.Commit.{Commit}
use Rattle.feed_node.specs.Codes.{commit_code, mirror_code, primary_code}
use Rattle.feed_node.specs.Log.{PrimaryState}
use Rattle.feed_node.specs.Mirroring.{MirrorState}
use Rattle.feed_world.specs.States.{ConnectionState, FollowingMirror, WorldState}

abbrev pub connection_code : Coded ConnectionState
connection_code =
    code_by (((List ℕ × List ℕ) × (Framing × FollowerState)) × ((ℕ × ℕ) × Bool))
    (coded× (coded× (coded× text_code text_code) (coded× framing.the_row.coded reader_code))
    (coded× (coded× coded_ℕ coded_ℕ) coded_bool))
    (λ c. (((c.token, c.bytes), (c.framing, c.reader)), ((c.delivered, c.start), c.over)))
    (λ p. record {
      token = p.0.0.0;
      bytes = p.0.0.1;
      framing = p.0.1.0;
      reader = p.0.1.1;
      delivered = p.1.0.0;
      start = p.1.0.1;
      over = p.1.1;
    }) (λ _. refl)

abbrev pub follower_code : Coded FollowingMirror
follower_code =
    code_by (MirrorState × (ℕ × (Option ConnectionState × List ℕ)))
    (coded× mirror_code (coded× coded_ℕ (coded× (coded_option connection_code) text_code)))
    (λ f. (f.mirror, (f.upstream, (f.connection, f.saved))))
    (λ p. record {
      mirror = p.0;
      upstream = p.1.0;
      connection = p.1.1.0;
      saved = p.1.1.1;
    }) (λ _. refl)

abbrev pub world_code : Coded WorldState
world_code =
    code_by (Framing × (PrimaryState × (List Commit × List FollowingMirror)))
    (coded× framing.the_row.coded
    (coded× primary_code (coded× (coded_list commit_code) (coded_list follower_code))))
    (λ w. (w.framing, (w.primary, (w.log, w.followers))))
    (λ p. record { framing = p.0; primary = p.1.0; log = p.1.1.0; followers = p.1.1.1 }) (λ _. refl)
