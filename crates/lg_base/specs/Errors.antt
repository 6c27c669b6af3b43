-- What an error says: "Server Error Message Reference" of the MySQL error manual gives the numbers below
-- 50000 and their states. The texts, and the numbers from 50001 on, are this project's own.
use Rattle.std.specs.Prelude.{ℕ, true, false, List, [], ◌++◌, take, Option, Some, None, codes, decimal}
use Rattle.lg_base.specs.declared.errors.Code.{Code}
use Rattle.lg_base.specs.declared.errors.Code.TheVariants.{BadHandshake, Denied, UnknownCommand, Syntax, TooLarge, OutOfOrder, NeedCreateUser, NeedPasswordAdmin, Cannot, GrantCreates, NoMethod, Weak, Sandboxed, MustChange, Locked, Reused, Blocked, RetainEmpty, RetainMethod, PasswordForm, OutOfRange, HistoryFull, FactorNumber, NameLength, KeeperFault, LabelLength, VerifierFault}
use Rattle.lg_base.specs.declared.errors.Operation.{Operation}
use Rattle.lg_base.specs.declared.errors.Operation.TheVariants.{CreateUser, AlterUser, DropUser, Revoke}

-- the number
abbrev pub number_of : Code → ℕ
number_of BadHandshake = 1043
number_of (Denied user using_password) = 1045
number_of UnknownCommand = 1047
number_of (Syntax place) = 1064
number_of TooLarge = 1153
number_of OutOfOrder = 1156
number_of NeedCreateUser = 1227
number_of NeedPasswordAdmin = 1227
number_of (Cannot operation user any_host) = 1396
number_of GrantCreates = 1410
number_of (NoMethod name) = 1524
number_of Weak = 1819
number_of Sandboxed = 1820
number_of MustChange = 1862
number_of (Locked user) = 3118
number_of Reused = 3638
number_of (Blocked user days left limit) = 3955
number_of RetainEmpty = 50001
number_of RetainMethod = 50002
number_of PasswordForm = 50003
number_of OutOfRange = 50004
number_of HistoryFull = 50005
number_of FactorNumber = 50006
number_of NameLength = 50007
number_of KeeperFault = 50008
number_of LabelLength = 50009
number_of VerifierFault = 50010

-- the state that goes with a number: the handshake's and the protocol's own, a refused login, a bad or
-- refused statement, and HY000 for all others
abbrev pub state_of : Code → List ℕ
state_of BadHandshake = codes "08S01"
state_of (Denied user using_password) = codes "28000"
state_of UnknownCommand = codes "08S01"
state_of (Syntax place) = codes "42000"
state_of TooLarge = codes "08S01"
state_of OutOfOrder = codes "08S01"
state_of NeedCreateUser = codes "42000"
state_of NeedPasswordAdmin = codes "42000"
state_of GrantCreates = codes "42000"
state_of _ = codes "HY000"

-- a user in a text, cut after 64 bytes
abbrev pub cut_name : List ℕ → List ℕ
cut_name name = take 64 name

-- how long a lock is, and how much of it is left
unfoldable pub span_text : Option ℕ → ℕ → List ℕ
span_text None left = codes "unlimited day(s) (unlimited day(s) remaining)"
span_text (Some days) left = decimal days ++ (codes " day(s) (" ++ (decimal left ++ codes " day(s) remaining)"))

-- how many failures set a lock
unfoldable pub cause_text : ℕ → List ℕ
cause_text limit = codes " due to " ++ (decimal limit ++ codes " consecutive failed logins.")

-- A text is words, a name or a number, words, and the account of a lock. These are the first words,
unfoldable pub words_of : Code → List ℕ
words_of BadHandshake = codes "Bad handshake"
words_of (Denied user using_password) = codes "Access denied for user '"
words_of UnknownCommand = codes "Unknown command"
words_of (Syntax place) = codes "You have an error in your SQL syntax at place "
words_of TooLarge = codes "Got a packet bigger than the limit"
words_of OutOfOrder = codes "Got packets out of order"
words_of NeedCreateUser = codes "Access denied; you need the CREATE USER privilege for this operation"
words_of NeedPasswordAdmin =
    codes "Access denied; you need the APPLICATION_PASSWORD_ADMIN or CREATE USER privilege for this operation"
words_of (Cannot CreateUser user any_host) = codes "Operation CREATE USER failed for '"
words_of (Cannot AlterUser user any_host) = codes "Operation ALTER USER failed for '"
words_of (Cannot DropUser user any_host) = codes "Operation DROP USER failed for '"
words_of (Cannot Revoke user any_host) = codes "Operation REVOKE failed for '"
words_of GrantCreates = codes "GRANT does not create an account"
words_of (NoMethod name) = codes "Plugin '"
words_of Weak = codes "Your password does not satisfy the current policy requirements"
words_of Sandboxed =
    codes "You must reset your password using ALTER USER before executing this statement"
words_of MustChange =
    codes "Your password has expired; log in with a client that supports expired passwords"
words_of (Locked user) = codes "Access denied for user '"
words_of Reused = codes "The password contradicts the password history policy"
words_of (Blocked user days left limit) = codes "Access denied for user '"
words_of RetainEmpty = codes "The current password is empty and cannot be retained"
words_of RetainMethod = codes "The current password cannot be retained while the method changes"
words_of PasswordForm = codes "A password has at most 256 bytes and no zero byte"
words_of OutOfRange = codes "A number is out of its range"
words_of HistoryFull = codes "The account keeps 256 passwords that may not be used again yet"
words_of FactorNumber = codes "The factor does not fit the account"
words_of NameLength = codes "A user name has 1 to 32 bytes and no zero byte"
words_of KeeperFault = codes "The account store failed"
words_of LabelLength = codes "A label has 1 to 64 bytes"
words_of VerifierFault = codes "The verifier failed"

-- the name,
unfoldable pub named : Code → List ℕ
named (Denied user using_password) = cut_name user
named (Cannot operation user any_host) = cut_name user
named (NoMethod name) = cut_name name
named (Locked user) = cut_name user
named (Blocked user days left limit) = cut_name user
named _ = []

-- the words behind it,
unfoldable pub words_after : Code → List ℕ
words_after (Denied user true) = codes "'@'localhost' (using password: YES)"
words_after (Denied user false) = codes "'@'localhost' (using password: NO)"
words_after (Cannot operation user true) = codes "'@'%'"
words_after (Cannot operation user false) = codes "'@'localhost'"
words_after (NoMethod name) = codes "' is not loaded"
words_after (Locked user) = codes "'@'localhost'. Account is locked."
words_after (Blocked user days left limit) = codes "'@'localhost'. Account is blocked for "
words_after _ = []

-- and the numbers at the end, with their words
unfoldable pub ending : Code → List ℕ
ending (Syntax place) = decimal place
ending (Blocked user days left limit) = span_text days left ++ cause_text limit
ending _ = []

-- the text
abbrev pub text_of : Code → List ℕ
text_of code = words_of code ++ named code ++ words_after code ++ ending code
