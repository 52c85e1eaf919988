-- The answers that refuse, as they are written.
use Rattle.std.proofs.Common.{◌≡◌, refl, codes}
use Rattle.std.specs.Fmt.{digits}
use Rattle.feed_wire.specs.declared.refusal.Refusal.TheVariants.{LargeHead, Unreadable, NotGet, OtherPath, NothingPublished, TokenNotHeld}
use Rattle.feed_wire.specs.Answer.{refusal_text}

pub large_head : refusal_text LargeHead ≡ codes "HTTP/1.1 431 Request Header Fields Too Large\r\nContent-Type: application/json\r\nContent-Length: 39\r\nConnection: close\r\n\r\n{\"code\":431,\"message\":\"head too large\"}"
unfolding digits
large_head = refl

pub unreadable : refusal_text Unreadable ≡ codes "HTTP/1.1 400 Bad Request\r\nContent-Type: application/json\r\nContent-Length: 36\r\nConnection: close\r\n\r\n{\"code\":400,\"message\":\"bad request\"}"
unfolding digits
unreadable = refl

pub not_get : refusal_text NotGet ≡ codes "HTTP/1.1 405 Method Not Allowed\r\nContent-Type: application/json\r\nAllow: GET\r\nContent-Length: 43\r\nConnection: close\r\n\r\n{\"code\":405,\"message\":\"method not allowed\"}"
unfolding digits
not_get = refl

pub other_path : refusal_text OtherPath ≡ codes "HTTP/1.1 404 Not Found\r\nContent-Type: application/json\r\nContent-Length: 34\r\nConnection: close\r\n\r\n{\"code\":404,\"message\":\"not found\"}"
unfolding digits
other_path = refl

pub nothing_published : refusal_text NothingPublished ≡ codes "HTTP/1.1 503 Service Unavailable\r\nContent-Type: application/json\r\nContent-Length: 42\r\nConnection: close\r\n\r\n{\"code\":503,\"message\":\"nothing published\"}"
unfolding digits
nothing_published = refl

pub token_not_held : refusal_text TokenNotHeld ≡ codes "HTTP/1.1 400 Bad Request\r\nContent-Type: application/json\r\nContent-Length: 39\r\nConnection: close\r\n\r\n{\"code\":400,\"message\":\"token not held\"}"
unfolding digits
token_not_held = refl
