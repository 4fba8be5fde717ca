-- The rules of a crash, each on a small folder.
use Rattle.std.proofs.Common.{◌≡◌, ℕ, true, false, List, [], ◌∷◌, Some, refl}
use Rattle.std.specs.FinMap.{insert, remove}
use Rattle.ts_site.specs.Crash.{CrashState, is_loose, newest, settled, written, synced, renamed, removed, names_settled}
use Rattle.ts_site.specs.Folder.{Folder, no_files, moved}

-- two names, and a folder with a file under the first
abbrev a : List ℕ
a = 97 ∷ []

abbrev b : List ℕ
b = 98 ∷ []

abbrev one_file : Folder
one_file = insert no_files a (7 ∷ [])

-- a file that was made has unsettled bytes, until a sync or a barrier
made_is_loose : is_loose (written b (Some []) (settled one_file)) b ≡ true
made_is_loose = refl

made_is_settled : is_loose (synced b (written b (Some []) (settled one_file))) b ≡ false
made_is_settled = refl

others_are_firm : is_loose (written b (Some []) (settled one_file)) a ≡ false
others_are_firm = refl

-- an unsettled rename leaves the old names or the new ones
renamed_oldest : (renamed a b (settled one_file)).oldest ≡ one_file
renamed_oldest = refl

renamed_later : (renamed a b (settled one_file)).later ≡ moved one_file a b ∷ []
renamed_later = refl

-- of a rename and a removal the first alone may be left, and not the second alone
removed_later : (removed b (renamed a b (settled one_file))).later ≡ moved one_file a b ∷ remove (moved one_file a b) b ∷ []
removed_later = refl

-- once the names are settled, those that read are left
names_are_settled : names_settled (renamed a b (settled one_file)) ≡ settled (moved one_file a b)
names_are_settled = refl

-- a sync settles no rename
sync_keeps_rename : (synced b (renamed a b (settled one_file))).later ≡ (renamed a b (settled one_file)).later
sync_keeps_rename = refl

-- a file that was moved with unsettled bytes stays so under both names, whatever is synced, until a barrier
abbrev moved_loose : CrashState
moved_loose = names_settled (synced b (renamed a b (written a (Some (8 ∷ [])) (settled one_file))))

moved_stays_loose : is_loose moved_loose b ≡ true
moved_stays_loose = refl

left_stays_loose : is_loose moved_loose a ≡ true
left_stays_loose = refl

barrier_settles : is_loose (settled (newest moved_loose)) b ≡ false
barrier_settles = refl

-- a file that was put in the place of one with unsettled bytes is no surer
replaced_stays_loose : is_loose (synced b (renamed a b (written b (Some []) (settled one_file)))) b ≡ true
replaced_stays_loose = refl

-- a name that is made again while its removal is unsettled is so whatever is left of that
abbrev made_again : CrashState
made_again = written a (Some (8 ∷ [])) (removed a (settled one_file))

again_is_loose : is_loose made_again a ≡ true
again_is_loose = refl

again_oldest : (synced a made_again).oldest ≡ insert one_file a (8 ∷ [])
again_oldest = refl

again_newest : newest (synced a made_again) ≡ insert (remove one_file a) a (8 ∷ [])
again_newest = refl

again_is_firm : is_loose (synced a made_again) a ≡ false
again_is_firm = refl
