-- How the disk of a replica goes home.
use Rattle.std.specs.Prelude.{IsSome}
use Rattle.std.specs.Option.{is_some}
use Rattle.std.proofs.Common.{◌≡◌, refl, ℕ, List, Bool, true, false, Option, Some, None, sym, ◌∙◌, ap, subst}
use Rattle.blob_id.specs.declared.id.BlobId.{BlobId}
use Rattle.cell_model.specs.declared.cell.Cell.{Cell}
use Rattle.disk_core.specs.Content.{Content}
use Rattle.disk_core.specs.Homes.{Home, Out, PutsHome, SameContent}
use Rattle.log_manifest.specs.declared.manifest.LogSettings.{LogSettings}
use Rattle.part_log.specs.Images.{IsLaidOut}
use Rattle.part_log.specs.Layout.{Layout}
use Rattle.replica_core.specs.State.{ReplicaState}
use Rattle.world_model.specs.World.{Change}
use Rattle.node_lab.specs.Replicas.{AllRepresentEither, LogHasLayout, HoldsOpen, HoldsPlace, Left, PlaceHasLayout, settled}
use Rattle.part_log.specs.Log.{disk_size}
use Rattle.node_lab.specs.Slots.{GoesHome, HasLogSize, OpensAs, OpensSlot, OpensWhere, ReplicaSlot, StaysClosed, StaysClosedWhere}
use Rattle.node_lab.proofs.ReplicaLemmas.{either_settled, image_back, opened_settles, place_kept}
use Rattle.node_lab.proofs.LayoutLemmas.{opened_log, place_laid}

abbrev pub slot_with : {D : Type 0} → Option (ReplicaState D) → Option D → Option (List ℕ) → ReplicaSlot D
slot_with slot home out = record { replica = slot; home = home; out = out }

pub same_slot : {D : Type 0} (slot new_slot : Option (ReplicaState D)) (home new_home : Option D) (out new_out : Option (List ℕ)) → new_slot ≡ slot → new_home ≡ home → new_out ≡ out
    → ◌≡◌ {A = ReplicaSlot D} (record { replica = new_slot; home = new_home; out = new_out }) (record { replica = slot; home = home; out = out })
same_slot {D} slot new_slot home new_home out new_out a b c =
    ap (λ (s : Option (ReplicaState D)). slot_with s new_home new_out) a
    ∙ ap (λ (h : Option D). slot_with slot h new_out) b
    ∙ ap (λ (o : Option (List ℕ)). slot_with slot home o) c

pub left_same : {D : Type 0} (content : D → Content) (stops : Bool) (old disk kept : D) → Left content stops old disk → SameContent (content disk) (content kept) → Left content stops old kept
left_same content true old disk kept left same = record {
  left = subst (λ (l : List ℕ). (content old).images l) (sym same.seen) left.left;
  only = λ c image. left.only c (image_back (content disk) (content kept) same c image) ∙ sym same.seen;
}
left_same content false old disk kept left same = record {
  seen = same.seen ∙ left.seen;
  images = λ c. ((λ image. (left.images c).0 ((same.images c).0 image)), (λ image. (same.images c).1 ((left.images c).1 image)));
  moment = same.moment ∙ left.moment;
  left_since = λ t c. ((λ it. (left.left_since t c).0 ((same.left_since t c).0 it)), (λ it. (same.left_since t c).1 ((left.left_since t c).1 it)));
}

module _ {D : Type 0} (tells : Type 0) (content : D → Content) (size : D → ℕ) where
  pub sent : (stops : Bool) (folder : List ℕ) (node partition : ℕ) (replica : ReplicaState D) (disk : D) (home : Home D) (out : Out) (new_home : Home D) (new_out : Out) (slot new_slot : Option (ReplicaState D))
      → slot ≡ Some replica → new_slot ≡ None
      → PutsHome tells content size folder node partition disk home out new_home new_out → size disk ≡ size replica.log.disk → (tells → Left content stops replica.log.disk disk)
      → (tells → (settings : LogSettings) (cells : BlobId → Cell) (doubt : Option Change) → HoldsOpen content settings replica.down replica cells doubt → AllRepresentEither settings (content disk) cells doubt)
      → (tells → (settings : LogSettings) (layout : Layout) → LogHasLayout settings replica layout → IsLaidOut settings (content disk).seen layout)
      → GoesHome tells content size stops slot (record { replica = slot; home = home folder node partition; out = out node partition }) (record { replica = new_slot; home = new_home folder node partition; out = new_out node partition })
  sent stops folder node partition replica disk home out new_home new_out slot new_slot is gone puts bytes left stands laid =
      subst (λ (s : Option (ReplicaState D)). GoesHome tells content size stops s (record { replica = s; home = home folder node partition; out = out node partition }) (record { replica = new_slot; home = new_home folder node partition; out = new_out node partition })) (sym is) (
        record {
          kept = puts.kept;
          is = same_slot None new_slot (Some puts.kept) (new_home folder node partition) None (new_out node partition) gone puts.at_home puts.is_in;
          bytes = puts.same.bytes ∙ bytes;
          left = λ t. left_same content stops replica.log.disk disk puts.kept (left t) (puts.same.told t);
        },
        (λ t settings. (
          (λ cells doubt holds. subst (λ (s : Option (ReplicaState D)). HoldsPlace content settings s (new_home folder node partition) cells doubt) (sym gone)
              (place_kept content settings replica (home folder node partition) (new_home folder node partition) disk puts.kept cells doubt puts.at_home
              (image_back (content disk) (content puts.kept) (puts.same.told t)) (stands t settings cells doubt) holds)),
          (λ layout log. subst (λ (s : Option (ReplicaState D)). PlaceHasLayout content settings s (new_home folder node partition) layout) (sym gone)
              (place_laid content settings disk puts.kept (new_home folder node partition) layout puts.at_home (puts.same.told t).seen (laid t settings layout log))),
        )),
      )

-- a slot that stays
module _ {D : Type 0} (tells : Type 0) (content : D → Content) (size : D → ℕ) (settings : LogSettings) where
  pub stays_same : (old new : ReplicaSlot D) → new ≡ old → StaysClosed tells content size settings old new
  stays_same old new same = record {
    replica = ap (λ (s : ReplicaSlot D). s.replica) same;
    out = ap (λ (s : ReplicaSlot D). s.out) same;
    bytes = λ was. subst (λ (s : ReplicaSlot D). HasLogSize size settings s.home) (sym same) was;
    keeps = λ t cells doubt holds. subst (λ (s : ReplicaSlot D). HoldsPlace content settings s.replica s.home cells doubt) (sym same) holds;
    layout = λ t layout laid. subst (λ (s : ReplicaSlot D). PlaceHasLayout content settings s.replica s.home layout) (sym same) laid;
  }

  pub stays_where : (due : Bool) (old new : ReplicaSlot D) → new ≡ old → StaysClosedWhere tells content size due settings old new
  stays_where false old new same = same
  stays_where true old new same = stays_same old new same

  -- a slot that was opened, or isn't due, is as it is where opening went on
  pub opens_as : (due : Bool) (folder : List ℕ) (old new : ReplicaSlot D) → old.replica ≡ None → OpensWhere tells content size due settings folder old new → OpensAs tells content size new.replica due settings folder old new
  opens_as false folder old new none same =
      let gone : new.replica ≡ None = ap (λ (s : ReplicaSlot D). s.replica) same ∙ none in
      subst (λ (o : Option (ReplicaState D)). OpensAs tells content size o false settings folder old new) (sym gone) same
  opens_as true folder old new none opens =
      let there : new.replica ≡ Some opens.replica = ap (λ (s : ReplicaSlot D). s.replica) opens.is in
      subst (λ (o : Option (ReplicaState D)). OpensAs tells content size o true settings folder old new) (sym there) (refl, opens)

  -- and the other way round, where it is known which are open
  pub opens_where : (due : Bool) (folder : List ℕ) (old new : ReplicaSlot D) → is_some new.replica ≡ due → OpensAs tells content size new.replica due settings folder old new → OpensWhere tells content size due settings folder old new
  opens_where due folder old new up opens = go new.replica up opens
    where
      go : (o : Option (ReplicaState D)) → is_some o ≡ due → OpensAs tells content size o due settings folder old new → OpensWhere tells content size due settings folder old new
      go None none stays = none_is due none stays
        where
          none_is : (d : Bool) → false ≡ d → StaysClosedWhere tells content size d settings old new → OpensWhere tells content size d settings folder old new
          none_is false is stays = stays
          none_is true is stays = absurd (cc is)
      go (Some replica) some opened = subst (λ (d : Bool). OpensWhere tells content size d settings folder old new) (sym opened.0) opened.1

  -- a slot that was opened, and then closed
  closes_opened : (folder : List ℕ) (old mid new : ReplicaSlot D) → old.replica ≡ None → OpensSlot tells content size settings folder old mid → GoesHome tells content size false mid.replica mid new → StaysClosed tells content size settings old new
  closes_opened folder old mid new none opens goes =
      let there : mid.replica ≡ Some opens.replica = ap (λ (s : ReplicaSlot D). s.replica) opens.is in
      let went = subst (λ (s : Option (ReplicaState D)). GoesHome tells content size false s mid new) there goes in
      record {
        replica = ap (λ (s : ReplicaSlot D). s.replica) went.0.is ∙ sym none;
        out = ap (λ (s : ReplicaSlot D). s.out) went.0.is ∙ sym opens.was_in;
        bytes = λ was disk at.
            let both : ◌≡◌ {A = Option D} (Some went.0.kept) (Some disk) = sym (ap (λ (s : ReplicaSlot D). s.home) went.0.is) ∙ at in
            let same : went.0.kept ≡ disk = cc both in
            subst (λ (d : D). size d ≡ disk_size settings) same (went.0.bytes ∙ opens.bytes);
        keeps = λ t cells doubt holds.
            let settles = opened_settles content settings tells old.home opens.replica cells doubt t opens.opened (subst (λ (s : Option (ReplicaState D)). HoldsPlace content settings s old.home cells doubt) none holds) in
            let held = subst (λ (s : ReplicaSlot D). HoldsPlace content settings s.replica s.home (settled settles.0 cells doubt) None) (sym opens.is) settles.1 in
            let after = subst (λ (s : ReplicaSlot D). HoldsPlace content settings s.replica s.home (settled settles.0 cells doubt) None) went.0.is ((went.1 t settings).0 (settled settles.0 cells doubt) None held) in
            subst (λ (s : ReplicaSlot D). HoldsPlace content settings s.replica s.home cells doubt) (sym went.0.is) (either_settled settings (content went.0.kept) settles.0 cells doubt after);
        layout = λ t layout laid.
            let log = opened_log content settings tells old.home opens.replica layout t opens.opened (subst (λ (s : Option (ReplicaState D)). PlaceHasLayout content settings s old.home layout) none laid) in
            (went.1 t settings).1 layout (subst (λ (s : ReplicaSlot D). PlaceHasLayout content settings s.replica s.home layout) (sym opens.is) log);
      }

  -- where opening went on and is taken back, each slot is closed as before
  pub closes_again : (due : Bool) (folder : List ℕ) (old mid new : ReplicaSlot D) → old.replica ≡ None → OpensAs tells content size mid.replica due settings folder old mid → GoesHome tells content size false mid.replica mid new → StaysClosedWhere tells content size due settings old new
  closes_again due folder old mid new none opens goes = go mid.replica refl opens goes
    where
      go : (o : Option (ReplicaState D)) → mid.replica ≡ o → OpensAs tells content size o due settings folder old mid → GoesHome tells content size false o mid new → StaysClosedWhere tells content size due settings old new
      go None is stays same = subst (λ (s : ReplicaSlot D). StaysClosedWhere tells content size due settings old s) (sym same) stays
      go (Some replica) is opened goes =
          subst (λ (d : Bool). StaysClosedWhere tells content size d settings old new) (sym opened.0)
          (closes_opened folder old mid new none opened.1 (subst (λ (s : Option (ReplicaState D)). GoesHome tells content size false s mid new) (sym is) goes))

  -- the disk of a replica that is open is out
  pub opened_out : (due : Bool) (folder : List ℕ) (old new : ReplicaSlot D) → OpensAs tells content size new.replica due settings folder old new → IsSome new.replica → new.out ≡ Some folder
  opened_out due folder old new opens some = go new.replica opens some
    where
      go : (o : Option (ReplicaState D)) → OpensAs tells content size o due settings folder old new → IsSome o → new.out ≡ Some folder
      go None stays some = absurd (cc some)
      go (Some replica) opened some = ap (λ (s : ReplicaSlot D). s.out) opened.1.is
