-- The authentication methods that the client knows: "Authentication Methods" of the MySQL client/server protocol
-- documentation, its "Native Authentication", "Caching_sha2_password information" and "Clear text client plugin".
use Rattle.std.specs.Prelude.{ℕ, Bool, true, false, List, [], ◌∷◌, ◌++◌, take, drop, length, ◌==◌, nat_lt, codes, Option, Some, None, if◌then◌else◌}
use Rattle.std.specs.Str.{bytes_eq}
use Rattle.native_scramble.specs.Native.{native_answer}
use Rattle.caching_sha2.specs.Fast.{fast_answer}
use Rattle.login_client.specs.declared.methods.Method.{Method}
use Rattle.login_client.specs.declared.methods.Method.TheVariants.{Native, CachingSha2, Clear, Unknown}

unfoldable pub native_name : List ℕ
native_name = codes "mysql_native_password"

unfoldable pub caching_name : List ℕ
caching_name = codes "caching_sha2_password"

unfoldable pub clear_name : List ℕ
clear_name = codes "mysql_clear_password"

-- the method that a name on the wire stands for
abbrev pub method_of : List ℕ → Method
method_of name =
    if bytes_eq name native_name then Native
    else (if bytes_eq name caching_name then CachingSha2
    else (if bytes_eq name clear_name then Clear else Unknown))

-- the method that the client answers a greeting with: the greeting's, where it is one of the two with a nonce
abbrev pub first_method : Method → Method
first_method Native = Native
first_method _ = CachingSha2

abbrev pub name_of : Method → List ℕ
name_of Native = native_name
name_of _ = caching_name

-- the answer to a nonce by one of the two methods that hide a secret; an empty secret has an empty answer
abbrev pub scrambled : Method → List ℕ → List ℕ → List ℕ
scrambled Native secret nonce = native_answer secret nonce
scrambled _ secret nonce = fast_answer secret nonce

abbrev pub answer_of : Method → List ℕ → List ℕ → List ℕ
answer_of method [] nonce = []
answer_of method (b ∷ secret) nonce = scrambled method (b ∷ secret) nonce

-- a secret in the clear, and the 00 that ends it
abbrev pub clear_text : List ℕ → List ℕ
clear_text secret = secret ++ 0 ∷ []

-- behind a nonce stands nothing or a 00
abbrev pub is_nonce_end : List ℕ → Bool
is_nonce_end [] = true
is_nonce_end (b ∷ []) = b == 0
is_nonce_end _ = false

-- the nonce in the data of a switch: twenty bytes, with or without a 00 behind them
abbrev pub nonce_of : List ℕ → Option (List ℕ)
nonce_of body =
    if nat_lt (length body) 20 then None
    else (if is_nonce_end (drop 20 body) then Some (take 20 body) else None)
