-- As whom a client asks, and by which name it calls the server.
use Rattle.std.specs.Prelude.{◌≡◌, ℕ, Bool, true, not, ◌&&◌, ◌==◌, nat_lt, nat_le, List, ◌++◌, length, codes, Option, Some, None, option_map, if◌then◌else◌, Result, Ok, Err}
use Rattle.std.specs.List.{list_all, list_any}
use Rattle.base64.specs.Engines.{standard}
use Rattle.base64.specs.GeneralPurpose.{encode_of}
use Rattle.feed_settings.specs.Place.{is_host}
use Rattle.feed_wire.specs.declared.identity.IdentityFault.{IdentityFault}
use Rattle.feed_wire.specs.declared.identity.IdentityFault.TheVariants.{BadHost, BadUser, Memory}

-- what the field Host says, where that isn't the host of the place (RFC 9110, section 7.2), and the
-- value of the field Authorization (RFC 9110, section 11.6.2)
pub record Identity : Type 0 where
  pub host : Option (List ℕ)
  pub credentials : Option (List ℕ)

-- no control character (RFC 5234, appendix B.1)
abbrev pub is_printed : ℕ → Bool
is_printed b = not (nat_lt b 32) && not (b == 127)

-- a user's name, a colon and a password, with no control character (RFC 7617, section 2). The name
-- ends at the first colon. That there are at most 1,024 bytes is this profile's limit.
abbrev pub is_user_pass : List ℕ → Bool
is_user_pass text =
    nat_le (length text) 1024 && list_all is_printed text && list_any (λ b. b == 58) text

-- a user's credentials (RFC 7617, section 2; the encoding is RFC 4648's, section 4)
abbrev pub basic : List ℕ → List ℕ
basic user_pass = codes "Basic " ++ encode_of standard user_pass

-- a text that may be left out passes
abbrev pub passes : (List ℕ → Bool) → Option (List ℕ) → Bool
passes test None = true
passes test (Some text) = test text

-- nobody in particular, who calls the server by the place's host
abbrev pub anonymous : Identity
anonymous = record { host = None; credentials = None }

-- the identity that a host and a user's name and password make
abbrev pub make_identity : Option (List ℕ) → Option (List ℕ) → Identity
make_identity host user_pass =
    record { host = host; credentials = option_map basic user_pass }

-- the same, or the first of them that is no such text
abbrev pub identity_of : Option (List ℕ) → Option (List ℕ) → Result Identity IdentityFault
identity_of host user_pass =
    if not (passes is_host host) then Err BadHost
    else (if not (passes is_user_pass user_pass) then Err BadUser
    else Ok (make_identity host user_pass))

-- some texts make it
abbrev pub IsIdentity : Identity → Type 0
IsIdentity identity =
    (user_pass : Option (List ℕ)) × (identity_of identity.host user_pass ≡ Ok identity)

-- why texts make no identity: the first of the reasons; or memory ran out, and nothing else is
-- wrong
abbrev pub RefusesIdentity : Option (List ℕ) → Option (List ℕ) → IdentityFault → Type 0
RefusesIdentity host user_pass Memory =
    identity_of host user_pass ≡ Ok (make_identity host user_pass)
RefusesIdentity host user_pass fault = identity_of host user_pass ≡ Err fault
